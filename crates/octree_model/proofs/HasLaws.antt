-- What stands in a list of numbers.
use Rattle.std.proofs.Common.{◌≡◌, ℕ, zero, suc, ◌<◌, true, ◌||◌, List, [], ◌∷◌, ◌++◌, map, length, get_or, ap, refl, sym, arith, ◌∙◌, nat_eq}
use Rattle.std.proofs.Math.Bool.{or_assoc, or-false, or-true}
use Rattle.std.proofs.lemmas.Bool.{eq-eqb}
use Rattle.octree_model.specs.Numbers.{has}

-- a number that was put behind the others
pub has_push : (z n : ℕ) (ks : List ℕ) → has z (ks ++ n ∷ []) ≡ (has z ks || nat_eq z n)
has_push z n [] = or-false (nat_eq z n)
has_push z n (k ∷ ks) = ap (λ b. nat_eq z k || b) (has_push z n ks) ∙ sym (or_assoc (nat_eq z k) (has z ks) (nat_eq z n))

-- the number at a place of the list
pub has_at : (ks : List ℕ) (i d : ℕ) → i < length ks → has (get_or ks i d) ks ≡ true
has_at [] i d l = absurd (omega arith)
has_at (k ∷ ks) zero d l = ap (λ b. b || has k ks) (eq-eqb k k refl)
has_at (k ∷ ks) (suc i) d l = ap (λ b. nat_eq (get_or ks i d) k || b) (has_at ks i d (omega arith)) ∙ or-true (nat_eq (get_or ks i d) k)

-- functions that agree on the numbers of a list give the same list
pub map_same_in : {X : Type 0} (f g : ℕ → X) (ks : List ℕ) → ((z : ℕ) → has z ks ≡ true → f z ≡ g z) → map f ks ≡ map g ks
map_same_in f g [] same = refl
map_same_in f g (k ∷ ks) same =
    ap (λ x. x ∷ map f ks) (same k (ap (λ b. b || has k ks) (eq-eqb k k refl)))
    ∙ ap (λ xs. g k ∷ xs) (map_same_in f g ks (λ z h. same z (ap (λ b. nat_eq z k || b) h ∙ or-true (nat_eq z k))))
