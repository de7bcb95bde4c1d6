-- The voxels of an inner node: a cell is set where a point falls in it, and has the colour of the point nearest to its middle.
use Rattle.std.specs.Prelude.{ℕ, ◌%◌, ◌^◌, List, map, filter, unwrap_or, ◌==◌}
use Rattle.cube_math.specs.Points.{PointValue}
use Rattle.cube_math.specs.Cubes.{CubeValue, cell, key}
use Rattle.octree_model.specs.Numbers.{ascending, least}

-- a voxel as contracts see it: the number of its cell, and a colour number
pub record VoxelValue : Type 0 where
  pub cell : ℕ
  pub rgb : ℕ

-- the keys of the points that fall in a cell
abbrev pub cell_keys : CubeValue → List PointValue → ℕ → List ℕ
cell_keys c ps z = map (key c) (filter (λ p. cell c p == z) ps)

-- the colour number of the least key in a cell
abbrev pub cell_colour : CubeValue → List PointValue → ℕ → ℕ
cell_colour c ps z = unwrap_or (least (cell_keys c ps z)) 0 % 2 ^ 24

-- the cells in which points fall, ascending, each with its colour
unfoldable pub voxels : CubeValue → List PointValue → List VoxelValue
voxels c ps = map (λ z. record { cell = z; rgb = cell_colour c ps z }) (ascending (map (cell c) ps))
