-- Counts of seats by birth, of which the first ones are 0.
use Rattle.std.proofs.Common.{◌≡◌, ℕ, zero, suc, ◌+◌, ◌<◌, ◌≤◌, Bool, true, false, List, length, get_or, take, refl, ap, sym, ◌∙◌, arith, add-one, eq-eqb}
use Rattle.std.specs.Prelude.{◌&&◌, ◌==◌, nat_lt}
use Rattle.std.proofs.Common.{inl, inr}
use Rattle.std.proofs.lemmas.Bool.{cases_lt, eqb-true, lt-ltb, ltb-true}
use Rattle.std.specs.List.{list_all}
use Rattle.std.proofs.lemmas.List.Folds.{list_all_more}

-- whether nobody is of these births
abbrev pub are_back : List ℕ → Bool
are_back out = list_all (λ (n : ℕ). n == 0) out

back_and : (out : List ℕ) (n : ℕ) → n < length out → are_back (take (suc n) out) ≡ (are_back (take n out) && get_or out n 0 == 0)
back_and out n low = ap (λ m. are_back (take m out)) (sym (add-one n)) ∙ list_all_more (λ (m : ℕ). m == 0) out n 0 low

pub first_back : (out : List ℕ) (n : ℕ) → ((b : ℕ) → b < n → get_or out b 0 ≡ 0) → n ≤ length out → are_back (take n out) ≡ true
first_back out zero none few = refl
first_back out (suc n) none few =
    back_and out n (omega (arith, few))
    ∙ ap (λ (b : Bool). b && get_or out n 0 == 0) (first_back out n (λ b low. none b (omega (arith, low))) (omega (arith, few)))
    ∙ eq-eqb (get_or out n 0) 0 (none n (omega arith))

-- where the first n are, the next ones are if the n-th is
pub next_back : (out : List ℕ) (n : ℕ) → ((b : ℕ) → b < n → get_or out b 0 ≡ 0) → n < length out → are_back (take (suc n) out) ≡ (get_or out n 0 == 0)
next_back out n none low = back_and out n low ∙ ap (λ (b : Bool). b && get_or out n 0 == 0) (first_back out n none (omega (arith, low)))

-- whether there is a list to be cleared next, and nobody is out who reaches it
pub may_begin_is : (order out : List ℕ) (n : ℕ) → ((b : ℕ) → b < n → get_or out b 0 ≡ 0) → n < length order → n < length out → (nat_lt n (length order) && are_back (take (suc n) out)) ≡ (get_or out n 0 == 0)
may_begin_is order out n none more low = ap (λ (b : Bool). b && are_back (take (suc n) out)) (lt-ltb n (length order) more) ∙ next_back out n none low

both : (a b : Bool) → (a && b) ≡ true → (a ≡ true) × (b ≡ true)
both true b e = (refl, e)
both false b e = absurd (differ e)
  where
    differ : false ≡ true → ⊥
    differ e = cc

-- there is one, and so on
pub begun_next : (order out : List ℕ) (n : ℕ) → ((b : ℕ) → b < n → get_or out b 0 ≡ 0) → length out ≡ suc (length order) → (nat_lt n (length order) && are_back (take (suc n) out)) ≡ true
    → (n < length order) × ((b : ℕ) → b < n + 1 → get_or out b 0 ≡ 0)
begun_next order out n none births may =
    let parts : (nat_lt n (length order) ≡ true) × (are_back (take (suc n) out) ≡ true) = both (nat_lt n (length order)) (are_back (take (suc n) out)) may in
    let more : n < length order = ltb-true n (length order) parts.0 in
    let here : get_or out n 0 ≡ 0 = eqb-true (get_or out n 0) 0 (sym (next_back out n none (omega (arith, more, births))) ∙ parts.1) in
    (more, λ b low. elim (cases_lt b n) [ inl before ↦ none b before | inr behind ↦ (let same : b ≡ n = omega (arith, low, behind) in ap (λ k. get_or out k 0) same ∙ here) ])
