-- Outlines of whole octrees.
use Rattle.std.specs.Prelude.{◌≡◌, List, false, count_by, All}
use Rattle.cube_math.specs.Cubes.{CubeValue}
use Rattle.picture_model.specs.Cuts.{begins}
use Rattle.octree_model.specs.Outlines.{outline}
use Rattle.octree_model.specs.Shapes.{IsOctreeIn}
use Rattle.octree_model.specs.declared.outline.OutlineNode.{OutlineNode}
use Rattle.octree_model.specs.declared.tree.Tree.{Tree}

-- the nodes are those of some octree, in path order
pub record IsOutline (nodes : List OutlineNode) : Type 0 where
  pub tree : Tree
  pub cube : CubeValue
  pub octree : IsOctreeIn cube tree
  pub is : nodes ≡ outline tree cube

-- for each leaf of an outline there is exactly one node, of some nodes, from which the way goes down to the leaf
abbrev pub LeadToEachLeaf : List OutlineNode → List OutlineNode → Type 0
LeadToEachLeaf nodes outline = All (λ (leaf : OutlineNode). leaf.inner ≡ false → count_by (λ (n : OutlineNode). begins n.path leaf.path) nodes ≡ 1) outline
