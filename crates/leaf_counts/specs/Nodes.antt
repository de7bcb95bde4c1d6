-- The nodes of an octree with their numbers of points: where each stands, and its role.
use Rattle.std.specs.Prelude.{ℕ, ◌+◌, List, [], ◌∷◌, length, sum, Bool, true, false, Option, Some, None, slice_get, option_map, option_and_then, not}
pub use Rattle.cube_math.specs.Cubes.{cube_at}
use Rattle.octree_model.specs.declared.tree.Tree.{Tree}
use Rattle.octree_model.specs.declared.tree.Tree.TheOpen.{Tree-F, InnerNode-F}
use Rattle.octree_model.specs.declared.tree.Tree.TheFolds.{fold-Tree}
use Rattle.leaf_counts.specs.declared.counts.Counts.{Counts, Leaf, Inner}
use Rattle.leaf_counts.specs.declared.counts.Counts.TheOpen.{Counts-F}
use Rattle.leaf_counts.specs.declared.counts.Counts.TheFolds.{fold-Counts}

-- a tree's counts, from those of the trees below it
abbrev pub tree_counts : Tree-F Counts Counts → Counts
tree_counts (Tree-F.Leaf ps) = Leaf (length ps)
tree_counts (Tree-F.Inner n) = n

-- an inner node's counts, from those of its trees
abbrev pub inner_counts : InnerNode-F Counts Counts → Counts
inner_counts n = Inner n.count n.trees

-- the nodes of a tree with their roles and counts, without points and voxels
abbrev pub counted : Tree → Counts
counted = fold-Tree Counts Counts tree_counts inner_counts

-- how many nodes there are, from the numbers below a node
abbrev pub layer_total : Counts-F ℕ → ℕ
layer_total (Counts-F.Leaf n) = 1
layer_total (Counts-F.Inner n totals) = 1 + sum totals

-- leaves and inner nodes together
abbrev pub node_total : Counts → ℕ
node_total = fold-Counts ℕ layer_total

-- a node's role and count
pub record NodeValue : Type 0 where
  pub inner : Bool
  pub count : ℕ

-- the nodes by their paths
abbrev pub NodesAt : Type 0
NodesAt = List ℕ → Option NodeValue

-- the nodes of a leaf or an inner node by their paths from there, from those below it
abbrev pub layer_nodes : Counts-F NodesAt → NodesAt
layer_nodes (Counts-F.Leaf n) [] = Some record { inner = false; count = n }
layer_nodes (Counts-F.Leaf n) (g ∷ path) = None
layer_nodes (Counts-F.Inner n below) [] = Some record { inner = true; count = n }
layer_nodes (Counts-F.Inner n below) (g ∷ path) = option_and_then (λ nodes. nodes path) (slice_get below g)

-- the node at a path, where there is one
abbrev pub node_at : Counts → NodesAt
node_at = fold-Counts NodesAt layer_nodes

-- how many points the node at a path has, where there is one
abbrev pub count_at : Counts → List ℕ → Option ℕ
count_at counts path = option_map (λ n. n.count) (node_at counts path)

-- whether it is a node, and a leaf
abbrev pub is_leaf : Option NodeValue → Bool
is_leaf None = false
is_leaf (Some n) = not n.inner

-- whether it is a node, and an inner one
abbrev pub is_inner : Option NodeValue → Bool
is_inner None = false
is_inner (Some n) = n.inner

-- whether an inner node stands at the path
abbrev pub is_inner_at : Counts → List ℕ → Bool
is_inner_at counts path = is_inner (node_at counts path)

-- whether a leaf stands at the path
abbrev pub is_leaf_at : Counts → List ℕ → Bool
is_leaf_at counts path = is_leaf (node_at counts path)
