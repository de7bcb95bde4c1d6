-- Bags of points: lists without regard to order.
use Rattle.std.specs.Prelude.{◌≡◌, List, [], ◌∷◌, ◌++◌, Bool, count_by}
use Rattle.cube_math.specs.Points.{PointValue}
use Rattle.octree_model.specs.declared.tree.Tree.{Tree}
use Rattle.octree_model.specs.declared.tree.Tree.TheOpen.{Tree-F, InnerNode-F}
use Rattle.octree_model.specs.declared.tree.Tree.TheFolds.{fold-Tree}

-- two lists have the same points, each as often: whatever test is made, as many pass in one as in the other
abbrev pub IsSameBag : List PointValue → List PointValue → Type 0
IsSameBag ps qs = (test : PointValue → Bool) → count_by test ps ≡ count_by test qs

-- lists, one after the other
abbrev pub joined : List (List PointValue) → List PointValue
joined [] = []
joined (ps ∷ pss) = ps ++ joined pss

-- a tree's points, from those of the trees below it
abbrev pub tree_points : Tree-F (List PointValue) (List PointValue) → List PointValue
tree_points (Tree-F.Leaf ps) = ps
tree_points (Tree-F.Inner ps) = ps

-- an inner node's points, from those of its trees
abbrev pub node_points : InnerNode-F (List PointValue) (List PointValue) → List PointValue
node_points n = joined n.trees

-- the points of all leaves of a tree, in path order
abbrev pub leaf_points : Tree → List PointValue
leaf_points = fold-Tree (List PointValue) (List PointValue) tree_points node_points
