-- The leaves that a batch makes over-full.
use Rattle.std.specs.Prelude.{ℕ, ◌≡◌, ◌+◌, List, length, filter, Bool, ◌&&◌, nat_lt, unwrap_or}
use Rattle.cube_math.specs.Points.{PointValue}
use Rattle.cube_math.specs.Cubes.{CubeValue}
use Rattle.octree_model.specs.Octree.{inside, octree}
use Rattle.leaf_counts.specs.declared.counts.Counts.{Counts}
use Rattle.leaf_counts.specs.Nodes.{counted, count_at, cube_at}
use Rattle.leaf_counts.specs.Paths.{leaf_paths}

-- whether the cube at a path may split, and its count exceeds the leaf limit once the batch's points in it are added
abbrev pub is_overfull : ℕ → CubeValue → Counts → List PointValue → List ℕ → Bool
is_overfull leaf cube counts batch path =
    nat_lt 7 (cube_at cube path).bits && nat_lt leaf (unwrap_or (count_at counts path) 0 + length (inside (cube_at cube path) batch))

-- the paths of the leaves that a batch makes over-full, in path order
abbrev pub overfull : ℕ → CubeValue → Counts → List PointValue → List (List ℕ)
overfull leaf cube counts batch = filter (is_overfull leaf cube counts batch) (leaf_paths counts)

-- the counts are those of the octree of some points with this leaf limit
pub record IsCountedBy (leaf : ℕ) (cube : CubeValue) (counts : Counts) : Type 0 where
  pub points : List PointValue
  pub is : counts ≡ counted (octree leaf cube points)
