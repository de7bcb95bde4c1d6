-- A node that grows by the points of a batch.
use Rattle.std.specs.Prelude.{ℕ, ◌≡◌, ◌+◌, ◌<◌, ◌^◌, List, length, IsTrue}
use Rattle.cube_math.specs.Points.{PointValue}
use Rattle.cube_math.specs.Cubes.{CubeValue}
use Rattle.leaf_counts.specs.Nodes.{counted, is_leaf_at}
use Rattle.octree_model.specs.Octree.{octree}
use Rattle.batch_levels.specs.declared.level.Level.{Level}
use Rattle.batch_levels.specs.Levels.{level_of}

-- it is what is kept of some points, with which so many more are fewer than 2 ^ 32
pub record HasRoom (leaf : ℕ) (cube : CubeValue) (level : Level) (more : ℕ) : Type 0 where
  pub points : List PointValue
  pub is : level ≡ level_of leaf cube points
  pub few : length points + more < 2 ^ 32

-- it is what is kept of some points, and the path leads from it to a leaf of their octree
pub record IsOverLeaf (level : Level) (path : List ℕ) : Type 0 where
  pub leaf : ℕ
  pub cube : CubeValue
  pub points : List PointValue
  pub is : level ≡ level_of leaf cube points
  pub ends : IsTrue (is_leaf_at (counted (octree leaf cube points)) path)
