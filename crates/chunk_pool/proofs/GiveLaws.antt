-- Numbers that are made free again, one after another.
use Rattle.std.proofs.Common.{◌≡◌, ℕ, suc, ◌+◌, ◌<◌, ◌⊎◌, inl, inr, Bool, true, false, ◌||◌, List, [], ◌∷◌, ◌++◌, length, take, get_or, Some, ap, refl, sym, ◌∙◌, arith, nat_eq}
use Rattle.std.specs.Cmp.{unsigned_tied}
use Rattle.std.specs.List.{Contains, slice_get, list_any}
use Rattle.std.specs.Ordering.{nat_cmp, eq_by_cmp}
use Rattle.std.specs.FinSet as set
use Rattle.std.proofs.lemmas.Bool.{cases_Bool, eq-eqb, eqb-true}
use Rattle.std.proofs.lemmas.Cmp.{nat_cmp_total}
use Rattle.std.proofs.lemmas.List.Elements.{Contains-append_cases}
use Rattle.std.proofs.lemmas.List.Folds.{list_any_at, list_any_more}
use Rattle.chunk_pool.specs.Numbers.{Numbers, IsFree, with_all_free, with_free}
use Rattle.chunk_pool.proofs.Sets.{Some_numbers, contains_inserted, len_inserted, same_numbers}

-- ---- which numbers are free then

abbrev listed : List ℕ → Some_numbers
listed ks = set.from_list ks

in_list : (ks : List ℕ) (q : ℕ) → set.contains (listed ks) q ≡ true → (i : ℕ) × (slice_get ks i ≡ Some q)
in_list [] q has = let none : false ≡ true = sym (set.contains-empty nat_cmp q) ∙ has in absurd (cc)
in_list (k ∷ ks) q has = elim (cases_Bool (nat_eq q k)) [
  | inl here ↦ let same : q ≡ k = eqb-true q k here in (0, ap Some (sym same))
  | inr other ↦
      let later : (i : ℕ) × (slice_get ks i ≡ Some q) = in_list ks q (ap (λ b. b || set.contains (listed ks) q) (sym other) ∙ sym (contains_inserted (listed ks) k q) ∙ has) in
      (suc later.0, later.1)
]

pub given_free : (old now : Numbers) (ks : List ℕ) → now ≡ with_all_free old ks → (k : ℕ) → IsFree now k → IsFree old k ⊎ ((i : ℕ) × (slice_get ks i ≡ Some k))
given_free old now ks after k free =
    let either : (set.contains old.free k || set.contains (listed ks) k) ≡ true = sym (ap (λ (p : Numbers). set.contains p.free k) after ∙ set.contains-union nat_cmp_total old.free (listed ks) k) ∙ free in
    elim (cases_Bool (set.contains old.free k)) [
      | inl before ↦ inl before
      | inr lacks ↦ inr (in_list ks k (ap (λ b. b || set.contains (listed ks) k) (sym lacks) ∙ either))
    ]

inside_list : (ks : List ℕ) (q : ℕ) → Contains ks q → set.contains (listed ks) q ≡ true
inside_list ks q inside =
    let itself : eq_by_cmp nat_cmp q (get_or ks inside.0 q) ≡ true = ap (eq_by_cmp nat_cmp q) inside.2 ∙ unsigned_tied q q ∙ eq-eqb q q refl in
    set.contains-from_list nat_cmp_total ks q ∙ list_any_at (eq_by_cmp nat_cmp q) ks inside.0 q inside.1 itself

or-true : (a : Bool) → (a || true) ≡ true
or-true true = refl
or-true false = refl

pub given_all : (old now : Numbers) (ks : List ℕ) → now ≡ with_all_free old ks → (k : ℕ) → IsFree old k ⊎ Contains ks k → IsFree now k
given_all old now ks after k is = ap (λ (p : Numbers). set.contains p.free k) after ∙ set.contains-union nat_cmp_total old.free (listed ks) k ∙ elim is [
  | inl before ↦ ap (λ b. b || set.contains (listed ks) k) before
  | inr inside ↦ ap (λ b. set.contains old.free k || b) (inside_list ks k inside) ∙ or-true (set.contains old.free k)
]

-- after two such lists a number is free, or was neither free nor in one of them
pub given_twice : (old mid now : Numbers) (ks js : List ℕ) → mid ≡ with_all_free old ks → now ≡ with_all_free mid js → (k : ℕ) → IsFree now k ⊎ ((IsFree old k → ⊥) × (Contains (ks ++ js) k → ⊥))
given_twice old mid now ks js first second k = elim (cases_Bool (set.contains now.free k)) [
  | inl free ↦ inl free
  | inr lacks ↦ inr (
    (λ before. differ (sym lacks ∙ given_all mid now js second k (inl (given_all old mid ks first k (inl before))))),
    (λ inside. differ (sym lacks ∙ given_all mid now js second k (elim (Contains-append_cases ks js k inside) [
      | inl one ↦ inl (given_all old mid ks first k (inr one))
      | inr other ↦ inr other
    ]))),
  )
]
  where
    differ : false ≡ true → ⊥
    differ e = cc

pub given_size : (old now : Numbers) (ks : List ℕ) → now ≡ with_all_free old ks → now.size ≡ old.size
given_size old now ks after = ap (λ (p : Numbers). p.size) after

-- ---- the first n numbers were given back

pub record GivenBack (old now : Numbers) (ks : List ℕ) (n : ℕ) : Type 0 where
  pub after : now ≡ with_all_free old (take n ks)
  pub size : now.size ≡ old.size
  pub count : set.len now.free ≡ set.len old.free + n
  pub given : (k : ℕ) → IsFree now k → IsFree old k ⊎ ((i : ℕ) × (i < n) × (slice_get ks i ≡ Some k))

members_of_union : (s : Some_numbers) (ks : List ℕ) (q : ℕ) → set.contains (set.union s (listed ks)) q ≡ (set.contains s q || list_any (eq_by_cmp nat_cmp q) ks)
members_of_union s ks q = set.contains-union nat_cmp_total s (listed ks) q ∙ ap (λ b. set.contains s q || b) (set.contains-from_list nat_cmp_total ks q)

or-false : (a : Bool) → (a || false) ≡ a
or-false true = refl
or-false false = refl

pub given_none : (p : Numbers) (ks : List ℕ) → GivenBack p p ks 0
given_none p ks = record {
  after = ap (λ s. let r : Numbers = record { size = p.size; free = s } in r) (same_numbers _ _ (λ q. sym (or-false (set.contains p.free q)) ∙ sym (members_of_union p.free [] q)));
  size = refl;
  count = omega arith;
  given = λ k free. inl free;
}

-- the next number is not free yet
pub not_given : (old now : Numbers) (ks : List ℕ) (n k : ℕ) → GivenBack old now ks n → ((i q : ℕ) → slice_get ks i ≡ Some q → IsFree old q → ⊥)
    → ((i j q : ℕ) → slice_get ks i ≡ Some q → slice_get ks j ≡ Some q → i ≡ j) → slice_get ks n ≡ Some k → IsFree now k → ⊥
not_given old now ks n k back taken apart at free = elim (back.given k free) [
  | inl before ↦ taken n k at before
  | inr given ↦ let same : given.0 ≡ n = apart given.0 n k given.2 at in omega (arith, given.1)
]

not_free : (p : Numbers) (k : ℕ) → (IsFree p k → ⊥) → set.contains p.free k ≡ false
not_free p k taken = elim (cases_Bool (set.contains p.free k)) [ inl free ↦ absurd (taken free) | inr lacks ↦ lacks ]

one_last : (a b c : Bool) → (a || (b || c)) ≡ (b || (c || a))
one_last true true c = refl
one_last true false true = refl
one_last true false false = refl
one_last false true c = refl
one_last false false true = refl
one_last false false false = refl

-- the first n numbers, and then the next
given_next : (p : Numbers) (ks : List ℕ) (n d : ℕ) → n < length ks → with_free (with_all_free p (take n ks)) (get_or ks n d) ≡ with_all_free p (take (n + 1) ks)
given_next p ks n d low = ap (λ s. let r : Numbers = record { size = p.size; free = s } in r) (same_numbers _ _ (λ q.
    let first : Some_numbers = set.union p.free (listed (take n ks)) in
    set.contains-insert nat_cmp_total first (get_or ks n d) q
    ∙ ap (λ b. eq_by_cmp nat_cmp q (get_or ks n d) || b) (members_of_union p.free (take n ks) q)
    ∙ one_last (eq_by_cmp nat_cmp q (get_or ks n d)) (set.contains p.free q) (list_any (eq_by_cmp nat_cmp q) (take n ks))
    ∙ ap (λ b. set.contains p.free q || b) (sym (list_any_more (eq_by_cmp nat_cmp q) ks n d low))
    ∙ sym (members_of_union p.free (take (n + 1) ks) q)))

pub given_more : (old now : Numbers) (ks : List ℕ) (n d : ℕ) → GivenBack old now ks n → n < length ks → slice_get ks n ≡ Some (get_or ks n d) → (IsFree now (get_or ks n d) → ⊥) → GivenBack old (with_free now (get_or ks n d)) ks (n + 1)
given_more old now ks n d back low at taken =
    let k : ℕ = get_or ks n d in
    record {
      after = ap (λ p. with_free p k) back.after ∙ given_next old ks n d low;
      size = back.size;
      count = omega (arith, back.count, len_inserted now.free k (not_free now k taken));
      given = λ q free. elim (cases_Bool (nat_eq q k)) [
        | inl here ↦ let same : q ≡ k = eqb-true q k here in let small : n < n + 1 = omega arith in inr (n, small, at ∙ ap Some (sym same))
        | inr other ↦ elim (back.given q (ap (λ b. b || set.contains now.free q) (sym other) ∙ sym (contains_inserted now.free k q) ∙ free)) [
          | inl before ↦ inl before
          | inr given ↦ let small : given.0 < n + 1 = omega (arith, given.1) in inr (given.0, small, given.2)
        ]
      ];
    }
