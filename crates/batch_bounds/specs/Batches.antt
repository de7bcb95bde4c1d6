-- The batches of clouds.
use Rattle.std.specs.Prelude.{ℕ, ◌+◌, ◌*◌, List, [], ◌∷◌, length, map, take, drop}
use Rattle.std.specs.Int.{div_ceil}
use Rattle.std.specs.List.{flat_map}
use Rattle.cube_math.specs.Points.{PointValue}
use Rattle.octree_model.specs.Numbers.{up_to}

-- a cloud in pieces of so many points, the last one of what is left
abbrev pub pieces : ℕ → List PointValue → List (List PointValue)
pieces size cloud = map (λ k. take size (drop (k * size) cloud)) (up_to (div_ceil (length cloud) size))

-- the clouds in order, each cut by itself
abbrev pub batches : ℕ → List (List PointValue) → List (List PointValue)
batches size clouds = flat_map (pieces size) clouds

-- where each batch ends among the points of all, of which so many stand before them
abbrev pub ends_from : ℕ → List (List PointValue) → List ℕ
ends_from n [] = []
ends_from n (batch ∷ others) = (n + length batch) ∷ ends_from (n + length batch) others
