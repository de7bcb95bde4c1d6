-- Finite sets of numbers: how many they have, and how an insertion and a removal change that.
use Rattle.std.proofs.Common.{◌≡◌, ℕ, zero, suc, ◌+◌, ◌<◌, ◌≤◌, inl, inr, true, false, ◌||◌, ◌&&◌, not, cond, List, [], ◌∷◌, length, ap, sym, ◌∙◌, arith, nat_eq}
use Rattle.std.specs.Prelude.{IsTrue}
use Rattle.std.specs.Ordering.{nat_cmp}
use Rattle.std.specs.Cmp.{unsigned_tied}
use Rattle.std.specs.FinMap.{nat_cmp-IsAntisymmetric}
use Rattle.std.proofs.lemmas.Cmp.{nat_cmp_total}
use Rattle.std.proofs.lemmas.Bool.{cases_Bool, cases_eq, eq-eqb, ne_eqb}
use Rattle.std.specs.FinSet as set

-- a set of numbers
abbrev pub Some_numbers : Type 0
Some_numbers = set.FinSet nat_cmp

pub contains_inserted : (s : Some_numbers) (k q : ℕ) → set.contains (set.insert s k) q ≡ (nat_eq q k || set.contains s q)
contains_inserted s k q = set.contains-insert nat_cmp_total s k q ∙ ap (λ b. b || set.contains s q) (unsigned_tied q k)

pub contains_removed : (s : Some_numbers) (k q : ℕ) → set.contains (set.remove s k) q ≡ (not (nat_eq q k) && set.contains s q)
contains_removed s k q = set.contains-remove nat_cmp_total s k q ∙ ap (λ b. not b && set.contains s q) (unsigned_tied q k)

-- two sets with the same members are one
pub same_numbers : (s t : Some_numbers) → ((q : ℕ) → set.contains s q ≡ set.contains t q) → s ≡ t
same_numbers = set.same_set nat_cmp_total nat_cmp-IsAntisymmetric

-- a number that a set lacks makes it one larger
pub len_inserted : (s : Some_numbers) (k : ℕ) → set.contains s k ≡ false → set.len (set.insert s k) ≡ set.len s + 1
len_inserted s k new = set.len-insert nat_cmp_total s k ∙ ap (λ b. cond b (set.len s) (set.len s + 1)) new

len_inserted_most : (s : Some_numbers) (k : ℕ) → set.len (set.insert s k) ≤ set.len s + 1
len_inserted_most s k = elim (cases_Bool (set.contains s k)) [
  | inl there ↦ let e : set.len (set.insert s k) ≡ set.len s = set.len-insert nat_cmp_total s k ∙ ap (λ b. cond b (set.len s) (set.len s + 1)) there in omega (arith, e)
  | inr new ↦ omega (arith, len_inserted s k new)
]

-- a list has at least as many places as numbers
pub len_of_list : (ks : List ℕ) → set.len (set.from_list {R = nat_cmp} ks) ≤ length ks
len_of_list [] = omega (arith, set.len-empty nat_cmp)
len_of_list (k ∷ ks) = omega (arith, len_inserted_most (set.from_list ks) k, len_of_list ks)

-- a set without a number that it has, with it again
pub put_back : (s : Some_numbers) (k : ℕ) → set.contains s k ≡ true → set.insert (set.remove s k) k ≡ s
put_back s k has = same_numbers _ _ (λ q. contains_inserted (set.remove s k) k q ∙ ap (λ b. nat_eq q k || b) (contains_removed s k q) ∙ elim (cases_eq q k) [
  | inl here ↦ ap (λ b. b || (not (nat_eq q k) && set.contains s q)) (eq-eqb q k here) ∙ sym (ap (set.contains s) here ∙ has)
  | inr other ↦ ap (λ b. b || (not b && set.contains s q)) (ne_eqb q k other)
])

-- a set without a number that it just got
pub taken_out : (s : Some_numbers) (k : ℕ) → set.contains s k ≡ false → set.remove (set.insert s k) k ≡ s
taken_out s k new = same_numbers _ _ (λ q. contains_removed (set.insert s k) k q ∙ ap (λ b. not (nat_eq q k) && b) (contains_inserted s k q) ∙ elim (cases_eq q k) [
  | inl here ↦ ap (λ b. not b && (nat_eq q k || set.contains s q)) (eq-eqb q k here) ∙ sym (ap (set.contains s) here ∙ new)
  | inr other ↦ ap (λ b. not b && (b || set.contains s q)) (ne_eqb q k other)
])

-- a set of numbers below n has at most n of them
pub len_below : (n : ℕ) (s : Some_numbers) → ((k : ℕ) → IsTrue (set.contains s k) → k < n) → set.len s ≤ n
len_below zero s below =
    let none : s ≡ set.empty = same_numbers s set.empty (λ q. elim (cases_Bool (set.contains s q)) [
      | inl has ↦ absurd (omega (arith, below q has))
      | inr lacks ↦ lacks ∙ sym (set.contains-empty nat_cmp q)
    ]) in
    omega (arith, ap set.len none, set.len-empty nat_cmp)
len_below (suc n) s below = elim (cases_Bool (set.contains s n)) [
  | inl has ↦
      let rest : (k : ℕ) → IsTrue (set.contains (set.remove s n) k) → k < n = λ k in_rest.
      let both : (not (nat_eq k n) && set.contains s k) ≡ true = sym (contains_removed s n k) ∙ in_rest in
      elim (cases_eq k n) [
        | inl here ↦ let none : false ≡ true = sym (ap (λ b. not b && set.contains s k) (eq-eqb k n here)) ∙ both in absurd (cc)
        | inr other ↦ let low : k < suc n = below k (sym (ap (λ b. not b && set.contains s k) (ne_eqb k n other)) ∙ both) in omega arith
      ] in
      omega (arith, len_below n (set.remove s n) rest, len_inserted_most (set.remove s n) n, ap set.len (put_back s n has))
  | inr lacks ↦
      let rest : (k : ℕ) → IsTrue (set.contains s k) → k < n = λ k has.
      elim (cases_eq k n) [
        | inl here ↦ let none : false ≡ true = sym lacks ∙ sym (ap (set.contains s) here) ∙ has in absurd (cc)
        | inr other ↦ let low : k < suc n = below k has in omega arith
      ] in
      let few : set.len s ≤ n = len_below n s rest in omega arith
]
