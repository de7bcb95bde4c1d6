-- What points change in the voxels of a node.
use Rattle.std.specs.Prelude.{ℕ, Bool, true, List, [], ◌∷◌, map, filter, unwrap_or, Option, Some, None, nat_lt, ◌==◌}
use Rattle.cube_math.specs.Points.{PointValue}
use Rattle.cube_math.specs.Cubes.{CubeValue}
use Rattle.octree_model.specs.Numbers.{ascending, least}
use Rattle.octree_model.specs.Voxels.{VoxelValue, cell_keys, voxels}
use Rattle.voxel_sampler.specs.Nears.{NearValue, keys_in}

-- whether a key is the first of a cell, or less than the least one there
abbrev pub is_lower : ℕ → Option ℕ → Bool
is_lower k None = true
is_lower k (Some old) = nat_lt k old

-- whether a cell in which points fall is new to the entries, or its least key falls by these points
abbrev pub falls : List NearValue → CubeValue → List PointValue → ℕ → Bool
falls best c ps z = is_lower (unwrap_or (least (cell_keys c ps z)) 0) (least (keys_in best z))

-- the voxels of the points in the cells that are new or whose least key falls
abbrev pub run_of : List NearValue → CubeValue → List PointValue → List VoxelValue
run_of best c ps = filter (λ v. falls best c ps v.cell) (voxels c ps)

-- the cells of voxels, in their order
abbrev pub voxel_cells : List VoxelValue → List ℕ
voxel_cells vs = map (λ v. v.cell) vs

-- the last number of a list, or another one where it has none
abbrev pub last_or : List ℕ → ℕ → ℕ
last_or [] other = other
last_or (n ∷ ns) other = last_or ns n

-- the colour number of the last voxel of a cell
abbrev pub last_colour : List VoxelValue → ℕ → ℕ
last_colour vs z = last_or (map (λ v. v.rgb) (filter (λ v. v.cell == z) vs)) 0

-- the last voxel of each cell, ascending by cell
abbrev pub last_entries : List VoxelValue → List VoxelValue
last_entries vs = map (λ z. record { cell = z; rgb = last_colour vs z }) (ascending (voxel_cells vs))
