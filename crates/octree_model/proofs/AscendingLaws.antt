-- Ascending lists of numbers, and the least number of a list.
use Rattle.std.proofs.Common.{◌≡◌, ℕ, suc, ◌+◌, ◌<◌, ◌≤◌, inl, inr, Bool, true, false, ◌||◌, List, [], ◌∷◌, ◌++◌, length, ap, refl, sym, arith, ◌∙◌, Option, Some, None, nat_eq, cond, min}
use Rattle.std.specs.List.{filter}
use Rattle.std.proofs.lemmas.Bool.{cases_lt, cases_eq, lt-ltb, le-ltb, eq-eqb, ne_eqb}
use Rattle.std.proofs.lemmas.List.Elements.{filter-append}
use Rattle.octree_model.specs.Numbers.{up_to, has, with_number, ascending, lesser, least}

-- ---- one number more
pub with_number_before : (n k : ℕ) (ks : List ℕ) → n < k → with_number n (k ∷ ks) ≡ n ∷ k ∷ ks
with_number_before n k ks l = rw (lt-ltb _ _ l) refl

pub with_number_at : (n k : ℕ) (ks : List ℕ) → n ≡ k → with_number n (k ∷ ks) ≡ k ∷ ks
with_number_at n k ks e = let l : k ≤ n = omega arith in rw (le-ltb _ _ l, eq-eqb _ _ e) refl

pub with_number_behind : (n k : ℕ) (ks : List ℕ) → k < n → with_number n (k ∷ ks) ≡ k ∷ with_number n ks
with_number_behind n k ks l =
    let le : k ≤ n = omega arith in
    let other : nat_eq n k ≡ false = ne_eqb _ _ (λ e. absurd (omega arith)) in
    rw (le-ltb _ _ le, other) refl

-- numbers come in in either order
with_number_twice : (a b : ℕ) → a < b → (ks : List ℕ) → with_number a (with_number b ks) ≡ with_number b (with_number a ks)
with_number_twice a b l [] = with_number_before a b [] l ∙ sym (with_number_behind b a [] l)
with_number_twice a b l (k ∷ ks) =
    elim (cases_lt b k) [
      | inl before ↦
          ap (with_number a) (with_number_before b k ks before) ∙ with_number_before a b (k ∷ ks) l
          ∙ sym (ap (with_number b) (with_number_before a k ks (omega arith)) ∙ with_number_behind b a (k ∷ ks) l ∙ ap (λ xs. a ∷ xs) (with_number_before b k ks before))
      | inr not_before ↦ elim (cases_eq b k) [
        | inl same ↦
            ap (with_number a) (with_number_at b k ks same) ∙ with_number_before a k ks (omega arith)
            ∙ sym (ap (with_number b) (with_number_before a k ks (omega arith)) ∙ with_number_behind b a (k ∷ ks) l ∙ ap (λ xs. a ∷ xs) (with_number_at b k ks same))
        | inr other ↦
            let behind : k < b = omega arith in
            let first : with_number a (with_number b (k ∷ ks)) ≡ with_number a (k ∷ with_number b ks) = ap (with_number a) (with_number_behind b k ks behind) in
            first ∙ elim (cases_lt a k) [
              | inl a_before ↦
                  with_number_before a k (with_number b ks) a_before
                  ∙ sym (ap (with_number b) (with_number_before a k ks a_before) ∙ with_number_behind b a (k ∷ ks) l ∙ ap (λ xs. a ∷ xs) (with_number_behind b k ks behind))
              | inr a_not_before ↦ elim (cases_eq a k) [
                | inl a_same ↦
                    with_number_at a k (with_number b ks) a_same
                    ∙ sym (ap (with_number b) (with_number_at a k ks a_same) ∙ with_number_behind b k ks behind)
                | inr a_other ↦
                    let a_behind : k < a = omega arith in
                    with_number_behind a k (with_number b ks) a_behind ∙ ap (λ xs. k ∷ xs) (with_number_twice a b l ks)
                    ∙ sym (ap (with_number b) (with_number_behind a k ks a_behind) ∙ with_number_behind b k (with_number a ks) behind)
              ]
            ]
      ]
    ]

pub with_number_commutes : (a b : ℕ) (ks : List ℕ) → with_number a (with_number b ks) ≡ with_number b (with_number a ks)
with_number_commutes a b ks = elim (cases_lt a b) [
  | inl l ↦ with_number_twice a b l ks
  | inr le ↦ elim (cases_eq a b) [
    | inl e ↦ ap (λ n. with_number n (with_number b ks)) e ∙ ap (λ n. with_number b (with_number n ks)) (sym e)
    | inr other ↦ sym (with_number_twice b a (omega arith) ks)
  ]
]

-- a list with one number more at its end
pub ascending_push : (ns : List ℕ) (n : ℕ) → ascending (ns ++ n ∷ []) ≡ with_number n (ascending ns)
ascending_push [] n = refl
ascending_push (k ∷ ns) n = ap (with_number k) (ascending_push ns n) ∙ with_number_commutes k n (ascending ns)

-- ---- which numbers stand in a list
or_turned : (a b c : Bool) → (a || (b || c)) ≡ (b || (a || c))
or_turned true true c = refl
or_turned true false c = refl
or_turned false true c = refl
or_turned false false c = refl

or_twice : (a c : Bool) → (a || c) ≡ (a || (a || c))
or_twice true c = refl
or_twice false c = refl

pub has-with_number : (z n : ℕ) (ks : List ℕ) → has z (with_number n ks) ≡ (nat_eq z n || has z ks)
has-with_number z n [] = refl
has-with_number z n (k ∷ ks) =
    elim (cases_lt n k) [
      | inl before ↦ ap (has z) (with_number_before n k ks before)
      | inr not_before ↦ elim (cases_eq n k) [
        | inl same ↦ ap (has z) (with_number_at n k ks same) ∙ or_twice (nat_eq z k) (has z ks) ∙ ap (λ m. nat_eq z m || (nat_eq z k || has z ks)) (sym same)
        | inr other ↦
            ap (has z) (with_number_behind n k ks (omega arith)) ∙ ap (λ b. nat_eq z k || b) (has-with_number z n ks) ∙ or_turned (nat_eq z k) (nat_eq z n) (has z ks)
      ]
    ]

pub has-ascending : (z : ℕ) (ns : List ℕ) → has z (ascending ns) ≡ has z ns
has-ascending z [] = refl
has-ascending z (n ∷ ns) = has-with_number z n (ascending ns) ∙ ap (λ b. nat_eq z n || b) (has-ascending z ns)

-- ---- the least number
lesser_turned : (a b : ℕ) (o : Option ℕ) → min a (lesser b o) ≡ min b (lesser a o)
lesser_turned a b None = omega arith
lesser_turned a b (Some k) = omega arith

-- a list with one number more at its end
pub least_push : (ns : List ℕ) (n : ℕ) → least (ns ++ n ∷ []) ≡ Some (lesser n (least ns))
least_push [] n = refl
least_push (k ∷ ns) n = ap (λ o. Some (lesser k o)) (least_push ns n) ∙ ap (λ m. Some m) (lesser_turned k n (least ns))

-- ---- the numbers below n that pass a test
-- a number behind all others comes last
pub with_number_before_last : (b n : ℕ) → b < n → (ks : List ℕ) → with_number b (ks ++ n ∷ []) ≡ with_number b ks ++ n ∷ []
with_number_before_last b n l [] = with_number_before b n [] l
with_number_before_last b n l (k ∷ ks) =
    elim (cases_lt b k) [
      | inl before ↦ with_number_before b k (ks ++ n ∷ []) before ∙ ap (λ (xs : List ℕ). xs ++ n ∷ []) (sym (with_number_before b k ks before))
      | inr not_before ↦ elim (cases_eq b k) [
        | inl same ↦ with_number_at b k (ks ++ n ∷ []) same ∙ ap (λ (xs : List ℕ). xs ++ n ∷ []) (sym (with_number_at b k ks same))
        | inr other ↦
            let behind : k < b = omega arith in
            with_number_behind b k (ks ++ n ∷ []) behind ∙ ap (λ xs. k ∷ xs) (with_number_before_last b n l ks)
            ∙ ap (λ (xs : List ℕ). xs ++ n ∷ []) (sym (with_number_behind b k ks behind))
      ]
    ]

pub filter_next : (t : ℕ → Bool) (n : ℕ) → filter t (up_to (suc n)) ≡ filter t (up_to n) ++ cond (t n) (n ∷ []) []
filter_next t n = filter-append t (up_to n) (n ∷ [])

-- a list with a number that is new is longer by one, and no list is shorter
pub length-with_new : (z : ℕ) (ks : List ℕ) → has z ks ≡ false → length (with_number z ks) ≡ length ks + 1
length-with_new z [] new = refl
length-with_new z (k ∷ ks) new = elim (cases_lt z k) [
  | inl before ↦ omega (arith, ap length (with_number_before z k ks before))
  | inr not_before ↦ elim (cases_eq z k) [
    | inl same ↦ absurd (there (nat_eq z k) (has z ks) (eq-eqb z k same) new)
    | inr other ↦ omega (arith, ap length (with_number_behind z k ks (omega arith)), length-with_new z ks (right_false (nat_eq z k) (has z ks) new))
  ]
]
  where
    there : (a b : Bool) → a ≡ true → (a || b) ≡ false → ⊥
    there true b e h = cc
    there false b e h = cc

    right_false : (a b : Bool) → (a || b) ≡ false → b ≡ false
    right_false true b e = cc
    right_false false b e = e

pub length-with_number : (z : ℕ) (ks : List ℕ) → length ks ≤ length (with_number z ks)
length-with_number z [] = omega arith
length-with_number z (k ∷ ks) = elim (cases_lt z k) [
  | inl before ↦ omega (arith, ap length (with_number_before z k ks before))
  | inr not_before ↦ elim (cases_eq z k) [
    | inl same ↦ omega (arith, ap length (with_number_at z k ks same))
    | inr other ↦ omega (arith, ap length (with_number_behind z k ks (omega arith)), length-with_number z ks)
  ]
]
