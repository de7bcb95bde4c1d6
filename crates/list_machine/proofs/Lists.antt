-- Lists read by place, with one item changed or one more, and sums over them.
use Rattle.std.proofs.Common.{◌≡◌, ℕ, zero, suc, ◌+◌, ◌<◌, ◌≤◌, ◌≢◌, ◌⊎◌, inl, inr, Bool, true, false, cond, List, [], ◌∷◌, ◌++◌, length, set, sym, refl, ap, ◌∙◌, subst, arith}
use Rattle.std.specs.Prelude.{Some, filter, slice_index, slice_index_or}
use Rattle.std.proofs.lemmas.Option.{none-some, same_Some}
use mathlib.Core.Logic.{dite}
use native.Mathlib.Decide.{ℕ_discrete}
use Rattle.list_machine.specs.Facts.{IsAt, total}

module _ {A : Type 0} where
  pub at_same : (l : List A) (i : ℕ) (a b : A) → IsAt l i a → IsAt l i b → a ≡ b
  at_same l i a b p q = same_Some a b (sym p ∙ q)

  pub at_nothing : (k : ℕ) (a : A) → IsAt [] k a → ⊥
  at_nothing k a p = none-some a p

  pub or_is : (l : List A) (i : ℕ) (a d : A) → IsAt l i a → slice_index_or l i d ≡ a
  or_is [] i a d p = absurd (none-some a p)
  or_is (x ∷ xs) zero a d p = same_Some x a p
  or_is (x ∷ xs) (suc i) a d p = or_is xs i a d p

  -- an item of a list with one change is the new one, or an old one
  pub at_set : (l : List A) (i j : ℕ) (a b : A) (F : Type 0) → IsAt (set l i a) j b → (j ≡ i → a ≡ b → F) → (j ≢ i → IsAt l j b → F) → F
  at_set [] i j a b F p hit miss = absurd (none-some b p)
  at_set (x ∷ xs) zero zero a b F p hit miss = hit refl (same_Some a b p)
  at_set (x ∷ xs) zero (suc j) a b F p hit miss = miss (λ e. omega arith) p
  at_set (x ∷ xs) (suc i) zero a b F p hit miss = miss (λ e. omega arith) p
  at_set (x ∷ xs) (suc i) (suc j) a b F p hit miss = at_set xs i j a b F p (λ e. hit (ap suc e)) (λ n. miss (λ e. n (omega arith)))

  pub each_set : (P : ℕ → A → Type 0) (l : List A) (i : ℕ) (a : A) → ((j : ℕ) (b : A) → j ≢ i → IsAt l j b → P j b) → P i a → (j : ℕ) (b : A) → IsAt (set l i a) j b → P j b
  each_set P l i a old new j b p = at_set l i j a b (P j b) p (λ e d. subst (λ (z : ℕ × A). P z.0 z.1) (λ t. (sym e t, d t)) new) (λ n h. old j b n h)

  pub at_set_same : (l : List A) (i : ℕ) (a b : A) → IsAt l i a → IsAt (set l i b) i b
  at_set_same [] i a b p = absurd (none-some a p)
  at_set_same (x ∷ xs) zero a b p = refl
  at_set_same (x ∷ xs) (suc i) a b p = at_set_same xs i a b p

  pub at_set_other : (l : List A) (i j : ℕ) (a b : A) → j ≢ i → IsAt l j b → IsAt (set l i a) j b
  at_set_other [] i j a b n p = p
  at_set_other (x ∷ xs) zero zero a b n p = absurd (n refl)
  at_set_other (x ∷ xs) zero (suc j) a b n p = p
  at_set_other (x ∷ xs) (suc i) zero a b n p = p
  at_set_other (x ∷ xs) (suc i) (suc j) a b n p = at_set_other xs i j a b (λ e. n (ap suc e)) p

  pub set_again : (l : List A) (i : ℕ) (a : A) → IsAt l i a → set l i a ≡ l
  set_again [] i a p = refl
  set_again (x ∷ xs) zero a p = λ k. sym (same_Some x a p) k ∷ xs
  set_again (x ∷ xs) (suc i) a p = λ k. x ∷ set_again xs i a p k

  pub at_below : (l : List A) (i : ℕ) (a : A) → IsAt l i a → i < length l
  at_below [] i a p = absurd (none-some a p)
  at_below (x ∷ xs) zero a p = omega arith
  at_below (x ∷ xs) (suc i) a p = let h = at_below xs i a p in omega arith

  pub some_at : (l : List A) (i : ℕ) → i < length l → (a : A) × IsAt l i a
  some_at [] i h = absurd (omega arith)
  some_at (x ∷ xs) zero h = (x, refl)
  some_at (x ∷ xs) (suc i) h = some_at xs i (omega arith)

  pub at_left : (l m : List A) (i : ℕ) (a : A) → IsAt l i a → IsAt (l ++ m) i a
  at_left [] m i a p = absurd (none-some a p)
  at_left (x ∷ xs) m zero a p = p
  at_left (x ∷ xs) m (suc i) a p = at_left xs m i a p

  pub at_right : (l m : List A) (i : ℕ) (a : A) → IsAt m i a → IsAt (l ++ m) (length l + i) a
  at_right [] m i a p = subst (λ (k : ℕ). IsAt m k a) (let e : i ≡ zero + i = omega arith in e) p
  at_right (x ∷ xs) m i a p = subst (λ (k : ℕ). IsAt (x ∷ (xs ++ m)) k a) (let e : suc (length xs + i) ≡ suc (length xs) + i = omega arith in e) (at_right xs m i a p)

  pub at_both : (l m : List A) (i : ℕ) (a : A) (F : Type 0) → IsAt (l ++ m) i a → ((j : ℕ) → IsAt l j a → F) → ((j : ℕ) → IsAt m j a → F) → F
  at_both [] m i a F p left right = right i p
  at_both (x ∷ xs) m zero a F p left right = left zero p
  at_both (x ∷ xs) m (suc i) a F p left right = at_both xs m i a F p (λ j q. left (suc j) q) right

  -- an item of a list with one more is an old one, or the last
  pub at_more : (l : List A) (x : A) (i : ℕ) (a : A) (F : Type 0) → IsAt (l ++ x ∷ []) i a → (IsAt l i a → F) → (i ≡ length l → x ≡ a → F) → F
  at_more [] x zero a F p old new = new refl (same_Some x a p)
  at_more [] x (suc i) a F p old new = absurd (none-some a p)
  at_more (y ∷ ys) x zero a F p old new = old p
  at_more (y ∷ ys) x (suc i) a F p old new = at_more ys x i a F p old (λ e f. new (ap suc e) f)

  pub at_last : (l : List A) (x : A) → IsAt (l ++ x ∷ []) (length l) x
  at_last [] x = refl
  at_last (y ∷ ys) x = at_last ys x

  pub total_set : (f : A → ℕ) (l : List A) (i : ℕ) (a b : A) → IsAt l i a → total f (set l i b) + f a ≡ total f l + f b
  total_set f [] i a b p = absurd (none-some a p)
  total_set f (x ∷ xs) zero a b p = let is : f x ≡ f a = ap f (same_Some x a p) in omega arith
  total_set f (x ∷ xs) (suc i) a b p = let r = total_set f xs i a b p in omega arith

  pub total_same : (f : A → ℕ) (l : List A) (i : ℕ) (a b : A) → IsAt l i a → f b ≡ f a → total f (set l i b) ≡ total f l
  total_same f l i a b p same = let r = total_set f l i a b p in omega arith

  pub total_more : (f : A → ℕ) (l : List A) (x : A) → total f (l ++ x ∷ []) ≡ total f l + f x
  total_more f [] x = omega arith
  total_more f (y ∷ ys) x = let h = total_more f ys x in omega arith

pub total_at : {A : Type 0} (f : A → ℕ) (l : List A) (i : ℕ) (a : A) → IsAt l i a → f a ≤ total f l
total_at f [] i a p = absurd (none-some a p)
total_at f (x ∷ xs) zero a p = let is : f x ≡ f a = ap f (same_Some x a p) in omega arith
total_at f (x ∷ xs) (suc i) a p = let h = total_at f xs i a p in omega arith

-- an item that a filter keeps
pub at_filter : {A : Type 0} (test : A → Bool) (xs : List A) (k : ℕ) (x : A) → IsAt (filter test xs) k x → (q : ℕ) × IsAt xs q x × (test x ≡ true)
at_filter test [] k x p = absurd (none-some x p)
at_filter {A} test (y ∷ ys) k x p = by (test y) refl k p (λ k p. at_filter test ys k x p) where
  by : (b : Bool) → test y ≡ b → (k : ℕ) → IsAt (cond b (y ∷ filter test ys) (filter test ys)) k x → ((k : ℕ) → IsAt (filter test ys) k x → (q : ℕ) × IsAt ys q x × (test x ≡ true)) → (q : ℕ) × IsAt (y ∷ ys) q x × (test x ≡ true)
  by true is zero p more = (0, p, ap test (sym (same_Some y x p)) ∙ is)
  by true is (suc k) p more = let r = more k p in (suc r.0, r.1, r.2)
  by false is k p more = let r = more k p in (suc r.0, r.1, r.2)

-- a number is in a list, or it is not
pub found_in : (xs : List ℕ) (d : ℕ) → ((r : ℕ) × IsAt xs r d) ⊎ ((r : ℕ) → IsAt xs r d → ⊥)
found_in [] d = inr (λ r p. none-some d p)
found_in (x ∷ xs) d = dite (ℕ_discrete x d) (λ e. inl (0, ap Some e)) (λ ne. later ne (found_in xs d)) where
  past : ((r : ℕ) → IsAt xs r d → ⊥) → x ≢ d → (r : ℕ) → IsAt (x ∷ xs) r d → ⊥
  past n ne zero p = ne (same_Some x d p)
  past n ne (suc r) p = n r p

  later : x ≢ d → ((r : ℕ) × IsAt xs r d) ⊎ ((r : ℕ) → IsAt xs r d → ⊥) → ((r : ℕ) × IsAt (x ∷ xs) r d) ⊎ ((r : ℕ) → IsAt (x ∷ xs) r d → ⊥)
  later ne (inl t) = inl (suc t.0, t.1)
  later ne (inr n) = inr (past n ne)

-- a number of a list, read with 0 past its end
pub index_is : (xs : List ℕ) (k x : ℕ) → IsAt xs k x → slice_index xs k ≡ x
index_is [] k x p = absurd (none-some x p)
index_is (y ∷ ys) zero x p = same_Some y x p
index_is (y ∷ ys) (suc k) x p = index_is ys k x p

pub index_at : (xs : List ℕ) (k : ℕ) → k < length xs → IsAt xs k (slice_index xs k)
index_at xs k lt = let d = some_at xs k lt in subst (λ (x : ℕ). IsAt xs k x) (sym (index_is xs k d.0 d.1)) d.1
