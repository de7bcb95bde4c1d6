-- Grants, as filings use them up.
use Rattle.std.proofs.Common.{◌≡◌, ℕ, ◌+◌, ◌-◌, ◌<◌, ◌≤◌, Bool, true, false, ◌&&◌, cond, List, [], ◌∷◌, ◌++◌, refl, arith, nat_eq, nat_le}
use Rattle.std.proofs.lemmas.Bool.Decides.{nat_tests}
use Rattle.std.proofs.lemmas.List.Sums.{sum_by-cons}
use Rattle.list_machine.specs.declared.views.Grant.{Grant}
use Rattle.list_words.specs.declared.leaf_lists.Answer.{Answer}
use Rattle.list_machine.specs.Grants.{granted_in, granted_in_all, use_grant}
use Rattle.list_words.specs.Filing.{left_after}

-- one more answer uses one more grant
pub left_after-push : (gs : List Grant) (answers : List Answer) (a : Answer) → left_after gs (answers ++ a ∷ []) ≡ use_grant a.list (left_after gs answers)
left_after-push gs [] a = refl
left_after-push gs (b ∷ answers) a = left_after-push (use_grant b.list gs) answers a

some_left : (b : Bool) (n : ℕ) → (b && nat_le 1 n) ≡ true → 1 ≤ n
some_left b n e = grind (arith, nat_tests)

none_left : (n : ℕ) → nat_le 1 n ≡ false → n < 1
none_left n e = grind (arith, nat_tests)

rest_left : (b : Bool) (n m : ℕ) → (b && nat_le 1 n) ≡ false → 0 < cond b n 0 + m → 0 < m
rest_left true n m e some = let none : n < 1 = none_left n e in omega arith
rest_left false n m e some = omega arith

-- a slot that is used is one less in all
pub granted_in_all-use_grant : (list : ℕ) (gs : List Grant) → 0 < granted_in list gs → granted_in_all (use_grant list gs) + 1 ≡ granted_in_all gs
granted_in_all-use_grant list [] some = absurd (omega arith)
granted_in_all-use_grant list (g ∷ gs) some = go (nat_eq g.list list && nat_le 1 g.n) refl (granted_in_all-use_grant list gs)
  where
    all : granted_in_all (g ∷ gs) ≡ g.n + granted_in_all gs
    all = sum_by-cons (λ (h : Grant). h.n) g gs

    go : (b : Bool) → (nat_eq g.list list && nat_le 1 g.n) ≡ b → (0 < granted_in list gs → granted_in_all (use_grant list gs) + 1 ≡ granted_in_all gs) → granted_in_all (cond b (record { list = g.list; n = g.n - 1 } ∷ gs) (g ∷ use_grant list gs)) + 1 ≡ granted_in_all (g ∷ gs)
    go true here rec =
        let less : granted_in_all (record { list = g.list; n = g.n - 1 } ∷ gs) ≡ g.n - 1 + granted_in_all gs = sum_by-cons (λ (h : Grant). h.n) (record { list = g.list; n = g.n - 1 }) gs in
        let one : 1 ≤ g.n = some_left (nat_eq g.list list) g.n here in
        omega (arith, all)
    go false there rec =
        let same : granted_in_all (g ∷ use_grant list gs) ≡ g.n + granted_in_all (use_grant list gs) = sum_by-cons (λ (h : Grant). h.n) g (use_grant list gs) in
        let parts : granted_in list (g ∷ gs) ≡ cond (nat_eq g.list list) g.n 0 + granted_in list gs = refl in
        let rest : 0 < granted_in list gs = rest_left (nat_eq g.list list) g.n (granted_in list gs) there (omega (arith, parts)) in
        omega (arith, all, rec rest)
