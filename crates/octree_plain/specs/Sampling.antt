-- The least key of each cell.
use Rattle.std.specs.Prelude.{ℕ, ◌≡◌, ◌<◌, ◌^◌, List, length, map, Some, slice_index, true}
use Rattle.cube_math.specs.Points.{PointValue}
use Rattle.cube_math.specs.Cubes.{CubeValue, cell}
use Rattle.octree_model.specs.Numbers.{has, least}
use Rattle.octree_model.specs.Voxels.{cell_keys}

-- the key of a cell: it stands among the keys at the cell's place
abbrev pub key_at : List ℕ → List ℕ → ℕ → ℕ
key_at places keys z = slice_index keys (slice_index places z)

-- a cell has a place, and its least key stands there
pub record HasLeastKey (c : CubeValue) (ps : List PointValue) (places keys : List ℕ) (z : ℕ) : Type 0 where
  pub small : z < 2 ^ 21
  pub within : slice_index places z < length keys
  pub least_key : least (cell_keys c ps z) ≡ Some (key_at places keys z)

-- each cell in which a point falls has its least key at a place of its own
pub record HasLeastKeys (c : CubeValue) (ps : List PointValue) (places keys : List ℕ) : Type 0 where
  pub each : (z : ℕ) → has z (map (cell c) ps) ≡ true → HasLeastKey c ps places keys z
  pub apart : (y z : ℕ) → has y (map (cell c) ps) ≡ true → has z (map (cell c) ps) ≡ true → slice_index places y ≡ slice_index places z → y ≡ z
