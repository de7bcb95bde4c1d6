-- Elements of lists by their places.
use Rattle.std.proofs.Common.{◌≡◌, ◌≢◌, ℕ, zero, suc, ◌<◌, ◌⊎◌, inl, inr, List, [], ◌∷◌, ◌++◌, length, map, set, get_or, Option, Some, ap, refl, sym, ◌∙◌, ◌+◌, arith}
use Rattle.std.proofs.lemmas.Option.{get_or_from_slice_get, same_Some, slice_get_within}
use Rattle.std.specs.List.{Contains, slice_get}

pub slice_get-set_same : {X : Type 0} (xs : List X) (i : ℕ) (v : X) → i < length xs → slice_get (set xs i v) i ≡ Some v
slice_get-set_same [] i v h = absurd (omega arith)
slice_get-set_same (x ∷ xs) zero v h = refl
slice_get-set_same (x ∷ xs) (suc i) v h = slice_get-set_same xs i v (omega arith)

pub slice_get-set_other : {X : Type 0} (xs : List X) (i j : ℕ) (v : X) → j ≢ i → slice_get (set xs i v) j ≡ slice_get xs j
slice_get-set_other [] i j v ne = refl
slice_get-set_other (x ∷ xs) zero zero v ne = absurd (ne refl)
slice_get-set_other (x ∷ xs) zero (suc j) v ne = refl
slice_get-set_other (x ∷ xs) (suc i) zero v ne = refl
slice_get-set_other (x ∷ xs) (suc i) (suc j) v ne = slice_get-set_other xs i j v (λ e. ne (ap suc e))

-- an element of a list with one more at its end
pub slice_get-push : {X : Type 0} (xs : List X) (y z : X) (i : ℕ) → slice_get (xs ++ y ∷ []) i ≡ Some z → (slice_get xs i ≡ Some z) ⊎ ((i ≡ length xs) × (y ≡ z))
slice_get-push [] y z zero e = let same : y ≡ z = cc in inr (refl, same)
slice_get-push [] y z (suc i) e = absurd (cc)
slice_get-push (x ∷ xs) y z zero e = inl e
slice_get-push (x ∷ xs) y z (suc i) e = elim (slice_get-push xs y z i e) [ inl before ↦ inl before | inr last ↦ inr (ap suc last.0, last.1) ]

-- the list after one more at its end, where the place lies before
pub get_or-push : (xs : List ℕ) (y i d : ℕ) → i < length xs → get_or (xs ++ y ∷ []) i d ≡ get_or xs i d
get_or-push [] y i d h = absurd (omega arith)
get_or-push (x ∷ xs) y zero d h = refl
get_or-push (x ∷ xs) y (suc i) d h = get_or-push xs y i d (omega arith)

pub append_none : {X : Type 0} (xs : List X) → xs ++ [] ≡ xs
append_none [] = refl
append_none (x ∷ xs) = ap (λ ys. x ∷ ys) (append_none xs)

-- an element keeps its place while others are put at the end
pub slice_get-more : {X : Type 0} (xs ys : List X) (i : ℕ) (x : X) → slice_get xs i ≡ Some x → slice_get (xs ++ ys) i ≡ Some x
slice_get-more [] ys i x e = absurd (cc)
slice_get-more (y ∷ xs) ys zero x e = e
slice_get-more (y ∷ xs) ys (suc i) x e = slice_get-more xs ys i x e

-- the last one stands at the end
pub slice_get-last : {X : Type 0} (xs : List X) (x : X) → slice_get (xs ++ x ∷ []) (length xs) ≡ Some x
slice_get-last [] x = refl
slice_get-last (y ∷ xs) x = slice_get-last xs x

-- what stands at a place of a list of numbers that are all there, and at which place a number stands there
pub number_at_map : (xs : List ℕ) (i : ℕ) (y : Option ℕ) → slice_get (map Some xs) i ≡ Some y → (x : ℕ) × (y ≡ Some x) × (slice_get xs i ≡ Some x)
number_at_map [] i y e = absurd (cc)
number_at_map (x ∷ xs) zero y e = (x, sym (same_Some (Some x) y e), refl)
number_at_map (x ∷ xs) (suc i) y e = number_at_map xs i y e

pub map_at_number : (xs : List ℕ) (i x : ℕ) → slice_get xs i ≡ Some x → slice_get (map Some xs) i ≡ Some (Some x)
map_at_number [] i x e = absurd (cc)
map_at_number (y ∷ xs) zero x e = ap (λ (z : Option ℕ). let w : Option (Option ℕ) = Some z in w) e
map_at_number (y ∷ xs) (suc i) x e = map_at_number xs i x e

-- and behind others it stands so many places later
pub slice_get-behind : {X : Type 0} (xs ys : List X) (i : ℕ) (x : X) → slice_get ys i ≡ Some x → slice_get (xs ++ ys) (length xs + i) ≡ Some x
slice_get-behind [] ys i x e = ap (slice_get ys) (let same : 0 + i ≡ i = omega arith in same) ∙ e
slice_get-behind (y ∷ xs) ys i x e = ap (slice_get (y ∷ xs ++ ys)) (let same : suc (length xs) + i ≡ suc (length xs + i) = omega arith in same) ∙ slice_get-behind xs ys i x e

-- an element of two lists in a row stands in one of them
pub slice_get-joined : {X : Type 0} (xs ys : List X) (i : ℕ) (x : X) → slice_get (xs ++ ys) i ≡ Some x → (slice_get xs i ≡ Some x) ⊎ ((r : ℕ) × (i ≡ length xs + r) × (slice_get ys r ≡ Some x))
slice_get-joined [] ys i x e = inr (i, omega arith, e)
slice_get-joined (z ∷ xs) ys zero x e = inl e
slice_get-joined (z ∷ xs) ys (suc i) x e = elim (slice_get-joined xs ys i x e) [ inl before ↦ inl before | inr behind ↦ inr (behind.0, omega (arith, behind.1), behind.2) ]

-- what stands at a place is in the list
pub contains_at : (xs : List ℕ) (i x : ℕ) → slice_get xs i ≡ Some x → Contains xs x
contains_at xs i x at = (i, slice_get_within xs i x at, get_or_from_slice_get xs i x x at)
