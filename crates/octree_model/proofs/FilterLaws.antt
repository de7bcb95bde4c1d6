-- The numbers below n that pass a test.
use Rattle.std.proofs.Common.{◌≡◌, ℕ, zero, suc, ◌<◌, ◌≤◌, inl, inr, Bool, true, false, ◌||◌, ◌&&◌, List, [], ◌∷◌, ◌++◌, ap, refl, sym, arith, ◌∙◌, nat_eq, nat_lt, cond}
use Rattle.std.specs.List.{All, filter}
use Rattle.std.proofs.lemmas.Bool.{cases_lt, cases_eq, lt-ltb, le-ltb, eq-eqb, ne_eqb}
use Rattle.std.proofs.lemmas.Bool.Decides.{nat_tests}
use Rattle.std.proofs.lemmas.List.{append-nil}
use Rattle.std.proofs.lemmas.List.Elements.{All-tail}
use Rattle.octree_model.specs.Numbers.{up_to, has, with_number, ascending}
use Rattle.octree_model.proofs.AscendingLaws.{with_number_before, with_number_at, with_number_behind, with_number_before_last, filter_next}

-- tests that agree below n
pub filter_same : (t t' : ℕ → Bool) (n : ℕ) → ((i : ℕ) → i < n → t' i ≡ t i) → filter t' (up_to n) ≡ filter t (up_to n)
filter_same t t' zero h = refl
filter_same t t' (suc n) h =
    filter_next t' n
    ∙ ap (λ (ks : List ℕ). ks ++ cond (t' n) (n ∷ []) []) (filter_same t t' n (λ i l. h i (omega arith)))
    ∙ ap (λ b. filter t (up_to n) ++ cond b (n ∷ []) []) (h n (omega arith))
    ∙ sym (filter_next t n)

-- no number passes
pub filter_none : (t : ℕ → Bool) (n : ℕ) → ((i : ℕ) → i < n → t i ≡ false) → filter t (up_to n) ≡ []
filter_none t zero h = refl
filter_none t (suc n) h =
    filter_next t n
    ∙ ap (λ (ks : List ℕ). ks ++ cond (t n) (n ∷ []) []) (filter_none t n (λ i l. h i (omega arith)))
    ∙ ap (λ b. cond b (n ∷ []) []) (h n (omega arith))

-- a number stands among those that pass where it passes
has_last : (z n : ℕ) (ks : List ℕ) (b : Bool) → has z (ks ++ cond b (n ∷ []) []) ≡ (has z ks || (nat_eq z n && b))
has_last z n [] true = grind (arith, nat_tests)
has_last z n [] false = grind (arith, nat_tests)
has_last z n (k ∷ ks) b = ap (λ c. nat_eq z k || c) (has_last z n ks b) ∙ or_assoc (nat_eq z k) (has z ks) (nat_eq z n && b)
  where
    or_assoc : (x y w : Bool) → (x || (y || w)) ≡ ((x || y) || w)
    or_assoc true y w = refl
    or_assoc false y w = refl

has_step : (z n : ℕ) (b c : Bool) → (z ≡ n → b ≡ c) → ((nat_lt z n && b) || (nat_eq z n && c)) ≡ (nat_lt z (suc n) && b)
has_step z n b c h = elim (cases_lt z n) [
  | inl below ↦ let other : nat_eq z n ≡ false = ne_eqb _ _ (λ e. absurd (omega arith)) in rw (lt-ltb _ _ below, lt-ltb z (suc n) (omega arith), other) (or_false b)
  | inr above ↦ elim (cases_eq z n) [
    | inl same ↦ rw (le-ltb _ _ above, eq-eqb _ _ same, lt-ltb z (suc n) (omega arith)) (sym (h same))
    | inr other ↦ rw (le-ltb _ _ above, ne_eqb _ _ other, le-ltb z (suc n) (omega arith)) refl
  ]
]
  where
    or_false : (x : Bool) → (x || false) ≡ x
    or_false true = refl
    or_false false = refl

pub has-filter : (z : ℕ) (t : ℕ → Bool) (n : ℕ) → has z (filter t (up_to n)) ≡ (nat_lt z n && t z)
has-filter z t zero = sym (ap (λ b. b && t z) (le-ltb z 0 (omega arith)))
has-filter z t (suc n) =
    ap (has z) (filter_next t n) ∙ has_last z n (filter t (up_to n)) (t n)
    ∙ ap (λ b. b || (nat_eq z n && t n)) (has-filter z t n)
    ∙ has_step z n (t z) (t n) (λ e. ap t e)

-- ---- one number more passes
abbrev AllBelow : ℕ → List ℕ → Type 0
AllBelow m [] = Unit {0}
AllBelow m (k ∷ ks) = (k < m) × AllBelow m ks

below_more : (m n : ℕ) (ks : List ℕ) (b : Bool) → n < m → AllBelow m ks → AllBelow m (ks ++ cond b (n ∷ []) [])
below_more m n [] true l h = (l, tt)
below_more m n [] false l h = tt
below_more m n (k ∷ ks) b l h = (h.0, below_more m n ks b l h.1)

filter_below : (t : ℕ → Bool) (m n : ℕ) → n ≤ m → AllBelow m (filter t (up_to n))
filter_below t m zero l = tt
filter_below t m (suc n) l = rw (filter_next t n) (below_more m n (filter t (up_to n)) (t n) (omega arith) (filter_below t m n (omega arith)))

with_last : (n : ℕ) (ks : List ℕ) (b : Bool) → AllBelow n ks → with_number n (ks ++ cond b (n ∷ []) []) ≡ ks ++ n ∷ []
with_last n [] true h = with_number_at n n [] refl
with_last n [] false h = refl
with_last n (k ∷ ks) b h = with_number_behind n k (ks ++ cond b (n ∷ []) []) h.0 ∙ ap (λ xs. k ∷ xs) (with_last n ks b h.1)

pub filter_with : (t t' : ℕ → Bool) (b n : ℕ) → b < n → ((i : ℕ) → i < n → t' i ≡ (nat_eq i b || t i)) → filter t' (up_to n) ≡ with_number b (filter t (up_to n))
filter_with t t' b zero l h = absurd (omega arith)
filter_with t t' b (suc n) l h =
    elim (cases_eq b n) [
      | inl same ↦
          let passes : t' n ≡ true = h n (omega arith) ∙ ap (λ x. x || t n) (eq-eqb _ _ (sym same)) in
          let others : filter t' (up_to n) ≡ filter t (up_to n) = filter_same t t' n (λ i k. h i (omega arith) ∙ ap (λ x. x || t i) (ne_eqb i b (λ e. absurd (omega arith)))) in
          filter_next t' n ∙ ap (λ x. filter t' (up_to n) ++ cond x (n ∷ []) []) passes
          ∙ ap (λ (ks : List ℕ). ks ++ n ∷ []) others
          ∙ sym (with_last n (filter t (up_to n)) (t n) (filter_below t n n (omega arith)))
          ∙ ap (λ ks. with_number n ks) (sym (filter_next t n))
          ∙ ap (λ m. with_number m (filter t (up_to (suc n)))) (sym same)
      | inr other ↦
          let agree : t' n ≡ t n = h n (omega arith) ∙ ap (λ x. x || t n) (ne_eqb n b (λ e. other (sym e))) in
          let below : b < n = omega arith in
          filter_next t' n ∙ ap (λ x. filter t' (up_to n) ++ cond x (n ∷ []) []) agree
          ∙ ap (λ (ks : List ℕ). ks ++ cond (t n) (n ∷ []) []) (filter_with t t' b n below (λ i k. h i (omega arith)))
          ∙ sym (before_end b n below (filter t (up_to n)) (t n))
          ∙ ap (with_number b) (sym (filter_next t n))
    ]
  where
    before_end : (b n : ℕ) → b < n → (ks : List ℕ) (x : Bool) → with_number b (ks ++ cond x (n ∷ []) []) ≡ with_number b ks ++ cond x (n ∷ []) []
    before_end b n l ks true = with_number_before_last b n l ks
    before_end b n l ks false = ap (with_number b) (append-nil ks) ∙ sym (append-nil (with_number b ks))

-- the least number that passes comes first
abbrev AllAbove : ℕ → List ℕ → Type 0
AllAbove m [] = Unit {0}
AllAbove m (k ∷ ks) = (m < k) × AllAbove m ks

above_more : (m n : ℕ) (ks : List ℕ) (b : Bool) → (b ≡ true → m < n) → AllAbove m ks → AllAbove m (ks ++ cond b (n ∷ []) [])
above_more m n [] true l h = (l refl, tt)
above_more m n [] false l h = tt
above_more m n (k ∷ ks) b l h = (h.0, above_more m n ks b l h.1)

filter_above : (t : ℕ → Bool) (m n : ℕ) → ((i : ℕ) → i ≤ m → t i ≡ false) → AllAbove m (filter t (up_to n))
filter_above t m zero h = tt
filter_above t m (suc n) h = rw (filter_next t n) (above_more m n (filter t (up_to n)) (t n) (λ e. elim (cases_lt m n) [ inl l ↦ l | inr le ↦ let f : true ≡ false = sym e ∙ h n le in cc ]) (filter_above t m n h))

first_of_all : (m : ℕ) (ks : List ℕ) → AllAbove m ks → with_number m ks ≡ m ∷ ks
first_of_all m [] h = refl
first_of_all m (k ∷ ks) h = with_number_before m k ks h.0

pub filter_lowest : (t t' : ℕ → Bool) (b n : ℕ) → b < n → ((i : ℕ) → i < n → t i ≡ (nat_eq i b || t' i)) → ((i : ℕ) → i ≤ b → t' i ≡ false) → filter t (up_to n) ≡ b ∷ filter t' (up_to n)
filter_lowest t t' b n l h low = filter_with t' t b n l h ∙ first_of_all b (filter t' (up_to n)) (filter_above t' b n low)

-- the ascending list of numbers below n is that of the numbers below n that stand in the list
pub ascending_by_filter : (n : ℕ) (ns : List ℕ) → All (λ k. k < n) ns → ascending ns ≡ filter (λ z. has z ns) (up_to n)
ascending_by_filter n [] h = sym (filter_none (λ z. false) n (λ i l. refl))
ascending_by_filter n (k ∷ ns) h =
    ap (with_number k) (ascending_by_filter n ns (All-tail (λ m. m < n) k ns h))
    ∙ sym (filter_with (λ z. has z ns) (λ z. has z (k ∷ ns)) k n (h 0 k (omega arith)) (λ i l. refl))
