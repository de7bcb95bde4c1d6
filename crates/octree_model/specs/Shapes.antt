-- Trees that are octrees.
use Rattle.std.specs.Prelude.{ℕ, ◌≡◌, ◌<◌, ◌^◌, List, length}
use Rattle.cube_math.specs.Points.{PointValue}
use Rattle.cube_math.specs.Cubes.{CubeValue, FitsSpace}
use Rattle.octree_model.specs.declared.tree.Tree.{Tree}
use Rattle.octree_model.specs.Octree.{octree}

-- a tree is the octree in the cube of some list of fewer than 2 ^ 32 points, at some leaf limit
pub record IsOctreeIn (cube : CubeValue) (tree : Tree) : Type 0 where
  pub leaf : ℕ
  pub points : List PointValue
  pub few : length points < 2 ^ 32
  pub is : tree ≡ octree leaf cube points

-- a tree is the octree in some cube of space
pub record IsOctree (tree : Tree) : Type 0 where
  pub cube : CubeValue
  pub fits : FitsSpace cube.ox cube.oy cube.oz cube.bits
  pub octree : IsOctreeIn cube tree
