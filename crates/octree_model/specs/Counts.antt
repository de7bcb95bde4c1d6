-- How many nodes a tree has.
use Rattle.std.specs.Prelude.{ℕ, ◌+◌, sum}
use Rattle.octree_model.specs.declared.tree.Tree.{Tree}
use Rattle.octree_model.specs.declared.tree.Tree.TheOpen.{Tree-F, InnerNode-F}
use Rattle.octree_model.specs.declared.tree.Tree.TheFolds.{fold-Tree}

-- a tree's number of nodes, from those of the trees below it
abbrev pub tree_count : Tree-F ℕ ℕ → ℕ
tree_count (Tree-F.Leaf ps) = 1
tree_count (Tree-F.Inner n) = n

-- an inner node and the nodes of its trees
abbrev pub node_count : InnerNode-F ℕ ℕ → ℕ
node_count n = 1 + sum n.trees

-- leaves and inner nodes together
abbrev pub nodes : Tree → ℕ
nodes = fold-Tree ℕ ℕ tree_count node_count
