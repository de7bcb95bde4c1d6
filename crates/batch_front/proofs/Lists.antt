-- Lists with one change or one item more, and sums over them.
use Rattle.std.proofs.Common.{◌≡◌, ℕ, zero, suc, ◌+◌, ◌≤◌, ◌≢◌, List, [], ◌∷◌, ◌++◌, set, sym, refl, ap, ◌∙◌, subst, arith, ⊎_elim}
use mathlib.Core.Option.{some-injective, some-ne-none}
use Rattle.atomic_table.proofs.Lists.{at_set}
use Rattle.batch_front.specs.Turns.{At, total, Each}

module _ {A : Type 0} where
  -- an item of a list with one change is the new one, or an old one
  pub one_set : (l : List A) (i j : ℕ) (a b : A) (F : Type 0) → At (set l i a) j b → (j ≡ i → a ≡ b → F) → (j ≢ i → At l j b → F) → F
  one_set l i j a b F at hit miss = ⊎_elim (λ t. hit t.0 t.1) (λ t. miss t.0 t.1) (at_set l i j a b at)

  pub each_set : (P : ℕ → A → Type 0) (l : List A) (i : ℕ) (a : A) → ((j : ℕ) (b : A) → At l j b → P j b) → P i a → (j : ℕ) (b : A) → At (set l i a) j b → P j b
  each_set P l i a old new j b at = one_set l i j a b (P j b) at (λ e d. subst (λ (z : ℕ × A). P z.0 z.1) (λ t. (sym e t, d t)) new) (λ n h. old j b h)

  pub at_same : (l : List A) (i : ℕ) (a b : A) → At l i a → At l i b → a ≡ b
  at_same l i a b p q = some-injective a b (sym p ∙ q)

  pub at_set_same : (l : List A) (i : ℕ) (a b : A) → At l i a → At (set l i b) i b
  at_set_same [] i a b e = absurd (some-ne-none a (sym e))
  at_set_same (x ∷ xs) zero a b e = refl
  at_set_same (x ∷ xs) (suc i) a b e = at_set_same xs i a b e

  pub total_set : (f : A → ℕ) (l : List A) (i : ℕ) (v w : A) → At l i v → total f (set l i w) + f v ≡ total f l + f w
  total_set f [] i v w e = absurd (some-ne-none v (sym e))
  total_set f (x ∷ xs) zero v w e = let is : f x ≡ f v = ap f (some-injective x v e) in omega arith
  total_set f (x ∷ xs) (suc i) v w e = let r = total_set f xs i v w e in omega arith

  pub total_same : (f : A → ℕ) (l : List A) (i : ℕ) (v w : A) → At l i v → f w ≡ f v → total f (set l i w) ≡ total f l
  total_same f l i v w e same = let r = total_set f l i v w e in omega arith

  pub total-append : (f : A → ℕ) (xs ys : List A) → total f (xs ++ ys) ≡ total f xs + total f ys
  total-append f [] ys = omega arith
  total-append f (x ∷ xs) ys = let r = total-append f xs ys in omega arith

  -- one item counts no more than all, and two at two places no more than all
  pub one_of : (f : A → ℕ) (l : List A) (i : ℕ) (v : A) → At l i v → f v ≤ total f l
  one_of f [] i v e = absurd (some-ne-none v (sym e))
  one_of f (x ∷ xs) zero v e = let is : f x ≡ f v = ap f (some-injective x v e) in omega arith
  one_of f (x ∷ xs) (suc i) v e = let r = one_of f xs i v e in omega arith

  pub two_of : (f : A → ℕ) (l : List A) (i j : ℕ) (v u : A) → At l i v → At l j u → i ≢ j → f v + f u ≤ total f l
  two_of f [] i j v u p q n = absurd (some-ne-none v (sym p))
  two_of f (x ∷ xs) zero zero v u p q n = absurd (n refl)
  two_of f (x ∷ xs) zero (suc j) v u p q n = let is : f x ≡ f v = ap f (some-injective x v p) in let r = one_of f xs j u q in omega arith
  two_of f (x ∷ xs) (suc i) zero v u p q n = let is : f x ≡ f u = ap f (some-injective x u q) in let r = one_of f xs i v p in omega arith
  two_of f (x ∷ xs) (suc i) (suc j) v u p q n = let r = two_of f xs i j v u p q (λ e. n (ap suc e)) in omega arith

  -- what is no more for each is no more for all
  pub total_le : (f g : A → ℕ) (l : List A) → ((j : ℕ) (v : A) → At l j v → f v ≤ g v) → total f l ≤ total g l
  total_le f g [] h = omega arith
  total_le f g (x ∷ xs) h = let r = total_le f g xs (λ j v p. h (suc j) v p) in let one = h 0 x refl in omega arith

  pub each_map : (P Q : A → Type 0) (l : List A) → ((x : A) → P x → Q x) → Each P l → Each Q l
  each_map P Q [] on h = tt
  each_map P Q (x ∷ xs) on h = (on x h.0, each_map P Q xs on h.1)

  pub each_both : (P Q R : A → Type 0) (l : List A) → ((x : A) → P x → Q x → R x) → Each P l → Each Q l → Each R l
  each_both P Q R [] on p q = tt
  each_both P Q R (x ∷ xs) on p q = (on x p.0 q.0, each_both P Q R xs on p.1 q.1)

  pub each-append : (P : A → Type 0) (xs ys : List A) → Each P xs → Each P ys → Each P (xs ++ ys)
  each-append P [] ys p q = q
  each-append P (x ∷ xs) ys p q = (p.0, each-append P xs ys p.1 q)
