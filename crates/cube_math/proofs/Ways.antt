-- The cubes along a path.
use Rattle.std.proofs.Common.{◌≡◌, ℕ, ◌+◌, List, [], ◌∷◌, ◌++◌, drop, Some, slice_get, ap, sym, ◌∙◌, refl}
use Rattle.std.proofs.lemmas.List.{drop_more}
use Rattle.std.proofs.lemmas.Option.{slice_get_within, get_or_from_slice_get}
use Rattle.cube_math.specs.Cubes.{CubeValue, child, cube_at}

-- what comes next in a list
pub next_of : {X : Type 0} (xs : List X) (i : ℕ) (x : X) → slice_get xs i ≡ Some x → drop i xs ≡ x ∷ drop (i + 1) xs
next_of xs i x at = drop_more xs i x (slice_get_within xs i x at) ∙ ap (λ y. y ∷ drop (i + 1) xs) (get_or_from_slice_get xs i x x at)

-- one step more leads to the cube to which the rest of the path leads
pub one_step : (c c' : CubeValue) (path : List ℕ) (i g : ℕ) → slice_get path i ≡ Some g → c' ≡ child c g → cube_at c' (drop (i + 1) path) ≡ cube_at c (drop i path)
one_step c c' path i g at is = ap (λ k. cube_at k (drop (i + 1) path)) is ∙ sym (ap (cube_at c) (next_of path i g at))

-- a path one step longer leads to a child
pub cube_at-push : (c : CubeValue) (path : List ℕ) (g : ℕ) → cube_at c (path ++ g ∷ []) ≡ child (cube_at c path) g
cube_at-push c [] g = refl
cube_at-push c (k ∷ path) g = cube_at-push (child c k) path g
