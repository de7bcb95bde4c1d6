-- The way from a node down to a leaf.
use Rattle.std.specs.Prelude.{ℕ, ◌≡◌, ◌++◌, List, IsTrue}
use Rattle.cube_math.specs.Points.{PointValue}
use Rattle.cube_math.specs.Cubes.{CubeValue, contains}
use Rattle.octree_model.specs.Octree.{octree}
use Rattle.leaf_counts.specs.declared.counts.Counts.{Counts}
use Rattle.leaf_counts.specs.Nodes.{counted, is_leaf_at, cube_at}

-- the counts are those of the octree in the cube of some points, at some leaf limit
pub record IsCountedIn (cube : CubeValue) (counts : Counts) : Type 0 where
  pub leaf : ℕ
  pub points : List PointValue
  pub is : counts ≡ counted (octree leaf cube points)

-- the path goes on from a node to the leaf in whose cube the point lies
pub record IsLeafBelow (counts : Counts) (path : List ℕ) (cube : CubeValue) (point : PointValue) (found : List ℕ) : Type 0 where
  pub steps : List ℕ
  pub is : found ≡ path ++ steps
  pub leaf : IsTrue (is_leaf_at counts steps)
  pub contained : IsTrue (contains (cube_at cube steps) point)
