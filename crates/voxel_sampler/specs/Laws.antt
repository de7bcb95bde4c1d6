-- Batches of points, merged one after the other.
use Rattle.std.specs.Prelude.{List, [], ◌∷◌}
use Rattle.std.specs.List.{flat_map}
use Rattle.cube_math.specs.Points.{PointValue}
use Rattle.cube_math.specs.Cubes.{CubeValue}
use Rattle.octree_model.specs.Voxels.{VoxelValue}
use Rattle.voxel_sampler.specs.Nears.{NearValue, nears_with}
use Rattle.voxel_sampler.specs.Runs.{run_of}

-- the least keys after these batches
abbrev pub nears_after : List NearValue → CubeValue → List (List PointValue) → List NearValue
nears_after best c [] = best
nears_after best c (ps ∷ pss) = nears_after (nears_with best c ps) c pss

-- the run of each batch
abbrev pub runs_of : List NearValue → CubeValue → List (List PointValue) → List (List VoxelValue)
runs_of best c [] = []
runs_of best c (ps ∷ pss) = run_of best c ps ∷ runs_of (nears_with best c ps) c pss

-- the voxels of some runs, one after the other
abbrev pub all_voxels : List (List VoxelValue) → List VoxelValue
all_voxels runs = flat_map (λ run. run) runs
