-- What is kept of an octree: its nodes with their roles and counts.
use Rattle.std.specs.Prelude.{ℕ, ◌≡◌, ◌<◌, ◌^◌, List, length}
use Rattle.cube_math.specs.Points.{PointValue}
use Rattle.cube_math.specs.Cubes.{CubeValue}
use Rattle.octree_model.specs.Octree.{octree}
use Rattle.leaf_counts.specs.declared.counts.Counts.{Counts}
use Rattle.leaf_counts.specs.Nodes.{counted, node_total}

-- a skeleton as contracts see it
pub record SkeletonValue : Type 0 where
  pub cube : CubeValue
  pub leaf : ℕ
  pub counts : Counts

-- the skeleton of these points: the roles and counts of their octree
abbrev pub skeleton_of : ℕ → CubeValue → List PointValue → SkeletonValue
skeleton_of leaf cube points = record { cube = cube; leaf = leaf; counts = counted (octree leaf cube points) }

-- it is the skeleton of some list of fewer than 2 ^ 32 points, and its number of nodes is known
pub record IsSkeleton (skeleton : SkeletonValue) (nodes : ℕ) : Type 0 where
  pub points : List PointValue
  pub few : length points < 2 ^ 32
  pub is : skeleton ≡ skeleton_of skeleton.leaf skeleton.cube points
  pub total : nodes ≡ node_total skeleton.counts
