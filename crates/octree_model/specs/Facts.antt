-- What can be said of a tree's nodes where the order of points in leaves does not matter.
use Rattle.std.specs.Prelude.{ℕ, ◌+◌, List, [], ◌∷◌, ◌++◌, length, Bool, true, false, count_by}
use Rattle.cube_math.specs.Points.{PointValue}
use Rattle.octree_model.specs.Voxels.{VoxelValue}
use Rattle.octree_model.specs.declared.tree.Tree.{Tree}
use Rattle.octree_model.specs.declared.tree.Tree.TheOpen.{Tree-F, InnerNode-F}
use Rattle.octree_model.specs.declared.tree.Tree.TheFolds.{fold-Tree}

-- a node: its path, whether it is inner, its number of points, its voxels, and of a leaf's points how many pass each test
pub record NodeFacts : Type 0 where
  pub path : List ℕ
  pub inner : Bool
  pub count : ℕ
  pub voxels : List VoxelValue
  pub bag : (PointValue → Bool) → ℕ

-- the facts of a tree's nodes, by the path of its root
abbrev pub FactsAt : Type 0
FactsAt = List ℕ → List NodeFacts

-- the facts of the children from octant g on, one after the other
abbrev pub children_facts : List ℕ → ℕ → List FactsAt → List NodeFacts
children_facts path g [] = []
children_facts path g (t ∷ ts) = t (path ++ g ∷ []) ++ children_facts path (g + 1) ts

-- a leaf with its bag of points, or the facts of an inner node
abbrev pub tree_facts : Tree-F FactsAt FactsAt → FactsAt
tree_facts (Tree-F.Leaf ps) path = record { path = path; inner = false; count = length ps; voxels = []; bag = λ test. count_by test ps } ∷ []
tree_facts (Tree-F.Inner facts) path = facts path

-- an inner node with its count and voxels, and then the facts of its children
abbrev pub node_facts : InnerNode-F FactsAt FactsAt → FactsAt
node_facts n path = record { path = path; inner = true; count = n.count; voxels = n.voxels; bag = λ test. 0 } ∷ children_facts path 0 n.trees

-- the facts of all nodes of a tree, in path order, by the path of its root
abbrev pub facts_at : Tree → FactsAt
facts_at = fold-Tree FactsAt FactsAt tree_facts node_facts

-- the facts of all nodes of an octree, in path order
abbrev pub facts : Tree → List NodeFacts
facts t = facts_at t []
