-- Sums over lists of which all items pass a test.
use Rattle.std.proofs.Common.{◌≡◌, ℕ, ◌+◌, Bool, true, false, not, cond, List, [], ◌∷◌, filter, sum_by, ◌∙◌, sym, refl, arith}
use Rattle.std.proofs.lemmas.List.Sums.{sum_by-cons}

-- sums agree where their terms do, at each item that passes a test which all pass
pub same_sum : {X : Type 0} (test : X → Bool) (f h : X → ℕ) (xs : List X) → filter (λ x. not (test x)) xs ≡ [] → ((x : X) → test x ≡ true → f x ≡ h x) → sum_by f xs ≡ sum_by h xs
same_sum test f h [] none each = refl
same_sum test f h (x ∷ xs) none each =
    sum_by-cons f x xs ∙ one (test x) refl none (λ rest. same_sum test f h xs rest each) ∙ sym (sum_by-cons h x xs)
  where
    not_nil : x ∷ filter (λ y. not (test y)) xs ≡ [] → ⊥
    not_nil e = cc

    one : (b : Bool) → test x ≡ b → cond (not b) (x ∷ filter (λ y. not (test y)) xs) (filter (λ y. not (test y)) xs) ≡ []
        → (filter (λ y. not (test y)) xs ≡ [] → sum_by f xs ≡ sum_by h xs) → f x + sum_by f xs ≡ h x + sum_by h xs
    one true e rest behind = (λ i. each x e i + behind rest i)
    one false e rest behind = absurd (not_nil rest)

-- a sum of sums
pub sum_both : {X : Type 0} (f h : X → ℕ) (xs : List X) → sum_by (λ x. f x + h x) xs ≡ sum_by f xs + sum_by h xs
sum_both f h [] = refl
sum_both f h (x ∷ xs) =
    let rest : sum_by (λ y. f y + h y) xs ≡ sum_by f xs + sum_by h xs = sum_both f h xs in
    sum_by-cons (λ y. f y + h y) x xs ∙ turn (f x) (h x) (sum_by f xs) (sum_by h xs) _ rest ∙ (λ i. sym (sum_by-cons f x xs) i + sym (sum_by-cons h x xs) i)
  where
    turn : (a b c d e : ℕ) → e ≡ c + d → (a + b) + e ≡ (a + c) + (b + d)
    turn a b c d e h = omega arith

-- a sum of one
pub sum_one : {X : Type 0} (f : X → ℕ) (x : X) → sum_by f (x ∷ []) ≡ f x
sum_one f x = sum_by-cons f x [] ∙ nothing (f x)
  where
    nothing : (n : ℕ) → n + 0 ≡ n
    nothing n = omega arith

-- the same over the items that pass one test, where all pass another
pub same_sum_in : {X : Type 0} (p q : X → Bool) (f h : X → ℕ) (xs : List X) → filter (λ x. not (q x)) xs ≡ [] → ((x : X) → p x ≡ true → q x ≡ true → f x ≡ h x) → sum_by f (filter p xs) ≡ sum_by h (filter p xs)
same_sum_in p q f h [] none each = refl
same_sum_in p q f h (x ∷ xs) none each = one (q x) (p x) refl refl none (λ rest. same_sum_in p q f h xs rest each)
  where
    not_nil : x ∷ filter (λ y. not (q y)) xs ≡ [] → ⊥
    not_nil e = cc

    one : (b c : Bool) → q x ≡ b → p x ≡ c → cond (not b) (x ∷ filter (λ y. not (q y)) xs) (filter (λ y. not (q y)) xs) ≡ []
        → (filter (λ y. not (q y)) xs ≡ [] → sum_by f (filter p xs) ≡ sum_by h (filter p xs))
        → sum_by f (cond c (x ∷ filter p xs) (filter p xs)) ≡ sum_by h (cond c (x ∷ filter p xs) (filter p xs))
    one false c e k rest behind = absurd (not_nil rest)
    one true false e k rest behind = behind rest
    one true true e k rest behind = sum_by-cons f x (filter p xs) ∙ (λ i. each x k e i + behind rest i) ∙ sym (sum_by-cons h x (filter p xs))
