-- Ascending lists, by their heads.
use Rattle.std.proofs.Common.{◌≡◌, ℕ, zero, suc, ◌<◌, ◌≤◌, inl, inr, true, false, ◌||◌, List, [], ◌∷◌, ◌++◌, take, length, get_or, ap, refl, sym, arith, ◌∙◌, subst}
use Rattle.std.proofs.lemmas.Bool.{cases_lt, cases_eq, ne_eqb}
use Rattle.octree_model.specs.Numbers.{has, with_number, ascending}
use Rattle.octree_model.proofs.AscendingLaws.{with_number_before, with_number_at, with_number_behind, has-ascending, ascending_push}
use Rattle.occupancy_grid.proofs.NumberSets.{AllUnder, under_by_has}

-- all numbers of a list are above m
abbrev pub AllOver : ℕ → List ℕ → Type 0
AllOver m [] = Unit {0}
AllOver m (n ∷ ns) = (m < n) × AllOver m ns

-- each number is below all that follow
abbrev pub Rising : List ℕ → Type 0
Rising [] = Unit {0}
Rising (n ∷ ns) = AllOver n ns × Rising ns

over_lower : (l m : ℕ) (ns : List ℕ) → l < m → AllOver m ns → AllOver l ns
over_lower l m [] b h = tt
over_lower l m (n ∷ ns) b h = (omega arith, over_lower l m ns b h.1)

over-with_number : (m n : ℕ) (ns : List ℕ) → m < n → AllOver m ns → AllOver m (with_number n ns)
over-with_number m n [] b h = (b, tt)
over-with_number m n (k ∷ ks) b h = elim (cases_lt n k) [
  | inl before ↦ subst (AllOver m) (sym (with_number_before n k ks before)) (b, h)
  | inr not_before ↦ elim (cases_eq n k) [
    | inl same ↦ subst (AllOver m) (sym (with_number_at n k ks same)) h
    | inr other ↦ subst (AllOver m) (sym (with_number_behind n k ks (omega arith))) (h.0, over-with_number m n ks b h.1)
  ]
]

rising-with_number : (n : ℕ) (ns : List ℕ) → Rising ns → Rising (with_number n ns)
rising-with_number n [] h = (tt, tt)
rising-with_number n (k ∷ ks) h = elim (cases_lt n k) [
  | inl before ↦ subst Rising (sym (with_number_before n k ks before)) ((before, over_lower n k ks before h.0), h)
  | inr not_before ↦ elim (cases_eq n k) [
    | inl same ↦ subst Rising (sym (with_number_at n k ks same)) h
    | inr other ↦ let behind : k < n = omega arith in
        subst Rising (sym (with_number_behind n k ks behind)) (over-with_number k n ks behind h.0, rising-with_number n ks h.1)
  ]
]

pub rising-ascending : (ns : List ℕ) → Rising (ascending ns)
rising-ascending [] = tt
rising-ascending (n ∷ ns) = rising-with_number n (ascending ns) (rising-ascending ns)

pub rising_from : (ns : List ℕ) → ascending ns ≡ ns → Rising ns
rising_from ns e = subst Rising e (rising-ascending ns)

first_of_over : (n : ℕ) (ns : List ℕ) → AllOver n ns → with_number n ns ≡ n ∷ ns
first_of_over n [] h = refl
first_of_over n (k ∷ ks) h = with_number_before n k ks h.0

pub ascending_rising : (ns : List ℕ) → Rising ns → ascending ns ≡ ns
ascending_rising [] h = refl
ascending_rising (n ∷ ns) h = ap (with_number n) (ascending_rising ns h.1) ∙ first_of_over n ns h.0

-- ---- which numbers stand there
pub over_has : (m z : ℕ) (ns : List ℕ) → AllOver m ns → has z ns ≡ true → m < z
over_has m z [] h e = absurd (false_true e)
  where
    false_true : false ≡ true → ⊥
    false_true e = cc
over_has m z (n ∷ ns) h e = elim (cases_eq z n) [
  | inl same ↦ omega (arith, h.0)
  | inr other ↦ over_has m z ns h.1 (sym (ap (λ b. b || has z ns) (ne_eqb z n other)) ∙ e)
]

pub over_not_has : (m z : ℕ) (ns : List ℕ) → AllOver m ns → z ≤ m → has z ns ≡ false
over_not_has m z ns h l = elim (has z ns) as (λ b. has z ns ≡ b → b ≡ false) [
  | true ↦ λ e. let above : m < z = over_has m z ns h e in absurd (omega arith)
  | false ↦ λ e. refl
] refl

pub under_has : (n z : ℕ) (ns : List ℕ) → AllUnder n ns → has z ns ≡ true → z < n
under_has n z [] h e = absurd (false_true e)
  where
    false_true : false ≡ true → ⊥
    false_true e = cc
under_has n z (k ∷ ks) h e = elim (cases_eq z k) [
  | inl same ↦ omega (arith, h.0)
  | inr other ↦ under_has n z ks h.1 (sym (ap (λ b. b || has z ks) (ne_eqb z k other)) ∙ e)
]

pub under_not_has : (n z : ℕ) (ns : List ℕ) → AllUnder n ns → n ≤ z → has z ns ≡ false
under_not_has n z ns h l = elim (has z ns) as (λ b. has z ns ≡ b → b ≡ false) [
  | true ↦ λ e. let below : z < n = under_has n z ns h e in absurd (omega arith)
  | false ↦ λ e. refl
] refl

pub under_higher : (m n : ℕ) (ns : List ℕ) → m ≤ n → AllUnder m ns → AllUnder n ns
under_higher m n [] l h = tt
under_higher m n (k ∷ ks) l h = (omega (arith, h.0), under_higher m n ks l h.1)

pub under-append : (n : ℕ) (ks ms : List ℕ) → AllUnder n ks → AllUnder n ms → AllUnder n (ks ++ ms)
under-append n [] ms h g = g
under-append n (k ∷ ks) ms h g = (h.0, under-append n ks ms h.1 g)

pub under-ascending : (n : ℕ) (ns : List ℕ) → AllUnder n ns → AllUnder n (ascending ns)
under-ascending n ns h = under_by_has n (ascending ns) (λ z e. under_has n z ns h (sym (has-ascending z ns) ∙ e))

-- a number above all others comes last
with_number_last : (n : ℕ) (ns : List ℕ) → AllUnder n ns → with_number n ns ≡ ns ++ n ∷ []
with_number_last n [] h = refl
with_number_last n (k ∷ ks) h = with_number_behind n k ks h.0 ∙ ap (λ xs. k ∷ xs) (with_number_last n ks h.1)

pub ascending_last : (n : ℕ) (ns : List ℕ) → AllUnder n ns → ascending (ns ++ n ∷ []) ≡ ascending ns ++ n ∷ []
ascending_last n ns h = ascending_push ns n ∙ with_number_last n (ascending ns) (under-ascending n ns h)

-- ---- places
over_at : (m i : ℕ) (ns : List ℕ) → AllOver m ns → i < length ns → m < get_or ns i 0
over_at m i [] h l = absurd (omega arith)
over_at m zero (n ∷ ns) h l = h.0
over_at m (suc i) (n ∷ ns) h l = over_at m i ns h.1 (omega arith)

-- the first numbers are below the next one
pub first_under : (ns : List ℕ) (i : ℕ) → Rising ns → i < length ns → AllUnder (get_or ns i 0) (take i ns)
first_under [] i h l = absurd (omega arith)
first_under (n ∷ ns) zero h l = tt
first_under (n ∷ ns) (suc i) h l = (over_at n i ns h.0 (omega arith), first_under ns i h.1 (omega arith))

pub next_over : (ns : List ℕ) (i : ℕ) → Rising ns → suc i < length ns → get_or ns i 0 < get_or ns (suc i) 0
next_over [] i h l = absurd (omega arith)
next_over (n ∷ ns) zero h l = over_at n 0 ns h.0 (omega arith)
next_over (n ∷ ns) (suc i) h l = next_over ns i h.1 (omega arith)

-- a number between the first ones and the next one does not stand there
pub not_between : (z : ℕ) (ns : List ℕ) (i : ℕ) → Rising ns → AllUnder z (take i ns) → (i < length ns → z < get_or ns i 0) → has z ns ≡ false
not_between z [] i h u l = refl
not_between z (n ∷ ns) zero h u l =
    let below : z < n = l (omega arith) in
    ap (λ b. b || has z ns) (ne_eqb z n (λ e. absurd (omega arith))) ∙ over_not_has n z ns h.0 (omega arith)
not_between z (n ∷ ns) (suc i) h u l =
    let above : n < z = u.0 in
    ap (λ b. b || has z ns) (ne_eqb z n (λ e. absurd (omega arith))) ∙ not_between z ns i h.1 u.1 (λ k. l (omega arith))
