-- The way down an octree.
use Rattle.std.specs.Prelude.{ℕ, ◌+◌, ◌≤◌, List, length}
use Rattle.cube_math.specs.Cubes.{CubeValue}
use Rattle.octree_model.specs.declared.tree.Tree.{Tree}
use Rattle.octree_model.specs.Shapes.{IsOctreeIn}

-- the tree of a node with this path, in a cube with so few bits that no path below it has more than 24 octants
pub record IsOctreeBelow (path : List ℕ) (tree : Tree) : Type 0 where
  pub cube : CubeValue
  pub octree : IsOctreeIn cube tree
  pub room : length path + cube.bits ≤ 31
