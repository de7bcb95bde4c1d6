-- The outline of a tree: its nodes in path order, each before the nodes below it.
use Rattle.std.specs.Prelude.{ℕ, ◌+◌, List, [], ◌∷◌, ◌++◌, true, false}
use Rattle.cube_math.specs.Cubes.{CubeValue, child}
use Rattle.octree_model.specs.declared.outline.OutlineNode.{OutlineNode}
use Rattle.octree_model.specs.declared.tree.Tree.{Tree}
use Rattle.octree_model.specs.declared.tree.Tree.TheOpen.{Tree-F, InnerNode-F}
use Rattle.octree_model.specs.declared.tree.Tree.TheFolds.{fold-Tree}

-- the outline of a tree, by the path and the cube of its root
abbrev pub OutlineAt : Type 0
OutlineAt = List ℕ → CubeValue → List OutlineNode

-- the outlines of the children from octant g on, one after the other
abbrev pub children_outline : List ℕ → CubeValue → ℕ → List OutlineAt → List OutlineNode
children_outline path c g [] = []
children_outline path c g (t ∷ ts) = t (path ++ g ∷ []) (child c g) ++ children_outline path c (g + 1) ts

-- a leaf by itself, or the outline of an inner node
abbrev pub tree_outline : Tree-F OutlineAt OutlineAt → OutlineAt
tree_outline (Tree-F.Leaf ps) path c = record { path = path; cube = c; inner = false } ∷ []
tree_outline (Tree-F.Inner outline) path c = outline path c

-- an inner node, and then the outlines of its children
abbrev pub node_outline : InnerNode-F OutlineAt OutlineAt → OutlineAt
node_outline n path c = record { path = path; cube = c; inner = true } ∷ children_outline path c 0 n.trees

-- the outline of a tree whose root has this path and this cube
abbrev pub outline_at : Tree → OutlineAt
outline_at = fold-Tree OutlineAt OutlineAt tree_outline node_outline

-- the outline of a whole octree
abbrev pub outline : Tree → CubeValue → List OutlineNode
outline t c = outline_at t [] c
