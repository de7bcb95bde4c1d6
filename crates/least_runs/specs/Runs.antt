-- Runs of least keys.
use Rattle.std.specs.Prelude.{ℕ, ◌+◌, ◌≤◌, ◌⊎◌, List, [], ◌∷◌, ◌++◌, length, map, sum}
use Rattle.octree_model.specs.Voxels.{VoxelValue}
use Rattle.voxel_sampler.specs.Nears.{NearValue, voxel_of, least_nears}

-- the entries of all runs, one run after the other
abbrev pub entries : List (List NearValue) → List NearValue
entries [] = []
entries (run ∷ runs) = run ++ entries runs

-- the least entry of each cell over some runs, ascending by cell: what they tell together
abbrev pub joined_run : List (List NearValue) → List NearValue
joined_run runs = least_nears (entries runs)

-- the cells of some runs, ascending, each with the colour of its least entry
abbrev pub voxels_of : List (List NearValue) → List VoxelValue
voxels_of runs = map voxel_of (joined_run runs)

-- runs of so many entries should be joined: those behind the first have at least 1,024 entries more than it, or there are 64 runs
abbrev pub IsJoinDue : List ℕ → Type 0
IsJoinDue [] = ⊥
IsJoinDue (first ∷ behind) = (first + 1024 ≤ sum behind) ⊎ (64 ≤ length behind + 1)
