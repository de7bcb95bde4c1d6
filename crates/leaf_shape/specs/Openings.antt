-- Paths that wait until lists are opened for them, and how many nodes that takes.
use Rattle.std.specs.Prelude.{ℕ, ◌≡◌, ◌-◌, ◌<◌, List, [], ◌∷◌, length, map, take, sum_by, slice_index_or}
use Rattle.leaf_shape.specs.declared.opening.Opening.{Opening}
use Rattle.leaf_shape.specs.Shapes.{path_of}

-- the paths of openings
abbrev pub paths_of : List Opening → List (List ℕ)
paths_of openings = map (λ (o : Opening). o.path) openings

-- each has the first so many octants of the one before it; the first one is taken to come after the root's path
abbrev pub AreShared : List Opening → Type 0
AreShared openings = (k : ℕ) (o : Opening) → k < length openings → o ≡ slice_index_or openings k o
    → take o.shared (path_of ([] ∷ paths_of openings) k) ≡ take o.shared o.path

-- how many nodes at most are given children: one for each octant that is not that of the path before
abbrev pub blocks : List Opening → ℕ
blocks openings = sum_by (λ (o : Opening). length o.path - o.shared) openings
