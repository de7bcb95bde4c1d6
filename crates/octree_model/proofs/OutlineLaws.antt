-- The outlines of leaves, of inner nodes, and of the children below them.
use Rattle.std.proofs.Common.{◌≡◌, ℕ, suc, ◌+◌, true, false, List, [], ◌∷◌, ◌++◌, map, length, ap, sym, ◌∙◌, arith, append_assoc}
use Rattle.std.proofs.lemmas.List.{append-nil}
use Rattle.cube_math.specs.Points.{PointValue}
use Rattle.cube_math.specs.Cubes.{CubeValue, child}
use Rattle.octree_model.specs.Outlines.{OutlineAt, children_outline, tree_outline, node_outline, outline_at}
use Rattle.octree_model.specs.declared.outline.OutlineNode.{OutlineNode}
use Rattle.octree_model.specs.declared.tree.InnerNode.{InnerNode}
use Rattle.octree_model.specs.declared.tree.Tree.TheOpen.{Tree-F}
use Rattle.octree_model.specs.declared.tree.Tree.TheFolds.{fold-roll-Tree, fold-roll-InnerNode}
use Rattle.octree_model.specs.declared.tree.Tree.TheVariants.{Leaf, Inner, rolls-Leaf, rolls-Inner}

abbrev pub leaf_outline : OutlineAt
leaf_outline path cube = record { path = path; cube = cube; inner = false } ∷ []

abbrev pub inner_outline : List OutlineAt → OutlineAt
inner_outline fs path cube = record { path = path; cube = cube; inner = true } ∷ children_outline path cube 0 fs

-- the outline of a leaf, and of an inner node
pub outline_at-Leaf : (ps : List PointValue) → outline_at (Leaf ps) ≡ leaf_outline
outline_at-Leaf ps = ap outline_at (sym (rolls-Leaf ps)) ∙ fold-roll-Tree OutlineAt OutlineAt tree_outline node_outline (Tree-F.Leaf ps)

pub outline_at-Inner : (n : InnerNode) → outline_at (Inner n) ≡ inner_outline (map outline_at n.trees)
outline_at-Inner n = ap outline_at (sym (rolls-Inner n)) ∙ fold-roll-Tree OutlineAt OutlineAt tree_outline node_outline (Tree-F.Inner n)
    ∙ fold-roll-InnerNode OutlineAt OutlineAt tree_outline node_outline record { count = n.count; voxels = n.voxels; trees = n.trees }

-- one child more
pub children_push : (path : List ℕ) (c : CubeValue) (g : ℕ) (fs : List OutlineAt) (f : OutlineAt)
    → children_outline path c g (fs ++ f ∷ []) ≡ children_outline path c g fs ++ f (path ++ (g + length fs) ∷ []) (child c (g + length fs))
children_push path c g [] f = append-nil (f (path ++ g ∷ []) (child c g)) ∙ ap (λ k. f (path ++ k ∷ []) (child c k)) (at_end g)
  where
    at_end : (g : ℕ) → g ≡ g + 0
    at_end g = omega arith
children_push path c g (h ∷ fs) f =
    ap (λ (l : List OutlineNode). h (path ++ g ∷ []) (child c g) ++ l)
    (children_push path c (g + 1) fs f ∙ ap (λ k. children_outline path c (g + 1) fs ++ f (path ++ k ∷ []) (child c k)) (one_on g (length fs)))
    ∙ sym (append_assoc (h (path ++ g ∷ []) (child c g)) (children_outline path c (g + 1) fs) (f (path ++ (g + suc (length fs)) ∷ []) (child c (g + suc (length fs)))))
  where
    one_on : (g k : ℕ) → g + 1 + k ≡ g + suc k
    one_on g k = omega arith
