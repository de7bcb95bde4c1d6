-- Numbers of nodes.
use Rattle.std.proofs.Common.{◌≡◌, ℕ, ◌+◌, List, map, sum, sym, ap, ◌∙◌}
use Rattle.octree_model.specs.declared.tree.Tree.TheOpen.{Tree-F}
use Rattle.octree_model.specs.declared.tree.Tree.TheFolds.{fold-roll-Tree, fold-roll-InnerNode}
use Rattle.octree_model.specs.declared.tree.Tree.TheVariants.{Leaf, Inner, rolls-Leaf, rolls-Inner}
use Rattle.octree_model.specs.declared.tree.InnerNode.{InnerNode}
use Rattle.cube_math.specs.Points.{PointValue}
use Rattle.octree_model.specs.Counts.{nodes, tree_count, node_count}

pub nodes-Leaf : (ps : List PointValue) → nodes (Leaf ps) ≡ 1
nodes-Leaf ps = ap nodes (sym (rolls-Leaf ps)) ∙ fold-roll-Tree ℕ ℕ tree_count node_count (Tree-F.Leaf ps)

pub nodes-Inner : (n : InnerNode) → nodes (Inner n) ≡ 1 + sum (map nodes n.trees)
nodes-Inner n = ap nodes (sym (rolls-Inner n)) ∙ fold-roll-Tree ℕ ℕ tree_count node_count (Tree-F.Inner n)
    ∙ fold-roll-InnerNode ℕ ℕ tree_count node_count record { count = n.count; voxels = n.voxels; trees = n.trees }
