-- Facts of each element of a list.
use Rattle.std.proofs.Common.{◌≡◌, ◌+◌, Bool, true, false, cond, List, [], ◌∷◌, ◌++◌, count_by, refl, ◌∙◌, arith}
use Rattle.std.specs.List.{AllByRecursion, filter, list_any, list_all}
use Rattle.std.proofs.lemmas.List.Sums.{sum_by-append, sum_by-cons}

pub each-append : {X : Type 0} (P : X → Type 0) (xs ys : List X) → AllByRecursion P xs → AllByRecursion P ys → AllByRecursion P (xs ++ ys)
each-append P [] ys p q = q
each-append P (x ∷ xs) ys p q = (p.0, each-append P xs ys p.1 q)

pub each_weaker : {X : Type 0} (P Q : X → Type 0) → ((x : X) → P x → Q x) → (xs : List X) → AllByRecursion P xs → AllByRecursion Q xs
each_weaker P Q h [] p = tt
each_weaker P Q h (x ∷ xs) p = (h x p.0, each_weaker P Q h xs p.1)

each_kept : {X : Type 0} (P : X → Type 0) (x : X) (xs : List X) (b : Bool) → P x → AllByRecursion P xs → AllByRecursion P (cond b (x ∷ xs) xs)
each_kept P x xs true p q = (p, q)
each_kept P x xs false p q = q

pub each-filter : {X : Type 0} (P : X → Type 0) (f : X → Bool) (xs : List X) → AllByRecursion P xs → AllByRecursion P (filter f xs)
each-filter P f [] p = tt
each-filter P f (x ∷ xs) p = each_kept P x (filter f xs) (f x) p.0 (each-filter P f xs p.1)

-- a filter that nothing passes
pub filter_none : {X : Type 0} (f : X → Bool) (xs : List X) → AllByRecursion (λ x. f x ≡ false) xs → filter f xs ≡ []
filter_none f [] p = refl
filter_none f (x ∷ xs) p = rw (p.0) (filter_none f xs p.1)

-- a test that nothing passes
pub any_none : {X : Type 0} (f : X → Bool) (xs : List X) → AllByRecursion (λ x. f x ≡ false) xs → list_any f xs ≡ false
any_none f [] p = refl
any_none f (x ∷ xs) p = rw (p.0) (any_none f xs p.1)

pub count-append : {X : Type 0} (f : X → Bool) (xs ys : List X) → count_by f (xs ++ ys) ≡ count_by f xs + count_by f ys
count-append f xs ys = sum_by-append (λ x. cond (f x) 1 0) xs ys

pub count_none : {X : Type 0} (f : X → Bool) (xs : List X) → AllByRecursion (λ x. f x ≡ false) xs → count_by f xs ≡ 0
count_none f [] p = refl
count_none f (x ∷ xs) p = sum_by-cons (λ y. cond (f y) 1 0) x xs ∙ rw (p.0) (omega (arith, count_none f xs p.1))

pub all_from_each : {X : Type 0} (f : X → Bool) (xs : List X) → AllByRecursion (λ x. f x ≡ true) xs → list_all f xs ≡ true
all_from_each f [] p = refl
all_from_each f (x ∷ xs) p = rw (p.0) (all_from_each f xs p.1)
