-- The way down an octree.
use Rattle.cube_math.specs.Cubes.{CubeValue}
use Rattle.octree_model.specs.declared.tree.Tree.{Tree}
use Rattle.octree_model.specs.Shapes.{IsOctreeIn}

-- a tree is the octree in some cube
pub record IsOctreeSomewhere (tree : Tree) : Type 0 where
  pub cube : CubeValue
  pub octree : IsOctreeIn cube tree
