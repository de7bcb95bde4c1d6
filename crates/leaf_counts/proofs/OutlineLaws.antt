-- The leaves and inner nodes of counts are those of the outline, in its order.
use Rattle.std.proofs.Common.{◌≡◌, ℕ, zero, suc, ◌+◌, ◌-◌, inl, inr, Bool, not, List, [], ◌∷◌, ◌++◌, map, length, filter, ap, ◌∙◌, sym, refl}
use Rattle.std.specs.List.{AllByRecursion}
use Rattle.std.proofs.lemmas.Bool.{cases_lt, le-leb, lt-leb}
use Rattle.std.proofs.lemmas.List.{map-append, append-nil}
use Rattle.std.proofs.lemmas.List.Elements.{filter-append}
use Rattle.cube_math.specs.Points.{PointValue}
use Rattle.cube_math.specs.Cubes.{CubeValue, child}
use Rattle.octree_model.specs.Leaves.{leaves}
use Rattle.octree_model.specs.Numbers.{up_to}
use Rattle.octree_model.specs.Octree.{inside, octree_at, octree}
use Rattle.octree_model.specs.Outlines.{OutlineAt, children_outline, outline_at, outline}
use Rattle.octree_model.specs.Voxels.{voxels}
use Rattle.octree_model.specs.declared.outline.OutlineNode.{OutlineNode}
use Rattle.octree_model.specs.declared.tree.InnerNode.{InnerNode}
use Rattle.octree_model.specs.declared.tree.Tree.{Tree}
use Rattle.octree_model.specs.declared.tree.Tree.TheVariants as tree
use Rattle.octree_model.proofs.OutlineLaws.{outline_at-Leaf, outline_at-Inner}
use Rattle.leaf_counts.specs.declared.counts.Counts.{Counts}
use Rattle.leaf_counts.specs.Nodes.{counted}
use Rattle.leaf_counts.specs.Paths.{paths_below, leaf_paths, inner_paths}
use Rattle.leaf_counts.proofs.CountLaws.{counted-Leaf, counted-Inner}
use Rattle.leaf_counts.proofs.PathLaws.{further, from_root, leaf_paths-Leaf, leaf_paths-Inner, inner_paths-Leaf, inner_paths-Inner}

abbrev path_of : OutlineNode → List ℕ
path_of n = n.path

abbrev is_leaf_node : OutlineNode → Bool
is_leaf_node n = not n.inner

abbrev is_inner_node : OutlineNode → Bool
is_inner_node n = n.inner

-- the nodes of a tree's outline that are kept have the paths that its counts name
abbrev IsNamed : (OutlineNode → Bool) → (Counts → List (List ℕ)) → Tree → Type 0
IsNamed keep paths t = (path : List ℕ) (c : CubeValue) → map path_of (filter keep (outline_at t path c)) ≡ map (λ steps. path ++ steps) (paths (counted t))

below_named : (keep : OutlineNode → Bool) (paths : Counts → List (List ℕ)) (ts : List Tree) → AllByRecursion (IsNamed keep paths) ts → (path : List ℕ) (c : CubeValue) (g : ℕ)
    → map path_of (filter keep (children_outline path c g (map outline_at ts))) ≡ map (λ steps. path ++ steps) (paths_below g (map paths (map counted ts)))
below_named keep paths [] h path c g = refl
below_named keep paths (t ∷ ts) h path c g =
    let here : List OutlineNode = outline_at t (path ++ g ∷ []) (child c g) in
    let behind : List OutlineNode = children_outline path c (g + 1) (map outline_at ts) in
    ap (map path_of) (filter-append keep here behind) ∙ map-append path_of (filter keep here) (filter keep behind)
    ∙ (λ i. h.0 (path ++ g ∷ []) (child c g) i ++ below_named keep paths ts h.1 path c (g + 1) i)
    ∙ sym (further path g (paths (counted t)) (paths_below (g + 1) (map paths (map counted ts))))

trees_named : (keep : OutlineNode → Bool) (paths : Counts → List (List ℕ)) (T : ℕ → Tree) (gs : List ℕ) → ((g : ℕ) → IsNamed keep paths (T g)) → AllByRecursion (IsNamed keep paths) (map T gs)
trees_named keep paths T [] h = tt
trees_named keep paths T (g ∷ gs) h = (h g, trees_named keep paths T gs h)

-- both kinds of nodes of a tree
record AreNamed (t : Tree) : Type 0 where
  leaves : IsNamed is_leaf_node leaf_paths t
  inner : IsNamed is_inner_node inner_paths t

leaf_named : (ps : List PointValue) → AreNamed (tree.Leaf ps)
leaf_named ps = record {
  leaves = λ path c.
      ap (λ (f : OutlineAt). map path_of (filter is_leaf_node (f path c))) (outline_at-Leaf ps) ∙ ap (λ (p : List ℕ). p ∷ []) (sym (append-nil path))
      ∙ sym (ap (map (λ steps. path ++ steps)) (ap leaf_paths (counted-Leaf ps) ∙ leaf_paths-Leaf (length ps)));
  inner = λ path c.
      ap (λ (f : OutlineAt). map path_of (filter is_inner_node (f path c))) (outline_at-Leaf ps)
      ∙ sym (ap (map (λ steps. path ++ steps)) (ap inner_paths (counted-Leaf ps) ∙ inner_paths-Leaf (length ps)));
}

inner_named : (n : InnerNode) → AllByRecursion (IsNamed is_leaf_node leaf_paths) n.trees → AllByRecursion (IsNamed is_inner_node inner_paths) n.trees → AreNamed (tree.Inner n)
inner_named n h k = record {
  leaves = λ path c.
      ap (λ (f : OutlineAt). map path_of (filter is_leaf_node (f path c))) (outline_at-Inner n) ∙ below_named is_leaf_node leaf_paths n.trees h path c 0
      ∙ sym (ap (map (λ steps. path ++ steps)) (ap leaf_paths (counted-Inner n) ∙ leaf_paths-Inner n.count (map counted n.trees)));
  inner = λ path c.
      ap (λ (f : OutlineAt). map path_of (filter is_inner_node (f path c))) (outline_at-Inner n)
      ∙ (λ i. sym (append-nil path) i ∷ below_named is_inner_node inner_paths n.trees k path c 0 i)
      ∙ sym (ap (map (λ steps. path ++ steps)) (ap inner_paths (counted-Inner n) ∙ inner_paths-Inner n.count (map counted n.trees)));
}

named : (leaf depth : ℕ) (c : CubeValue) (ps : List PointValue) → AreNamed (octree_at leaf depth c ps)
unfolding octree_at
named leaf zero c ps = leaf_named (inside c ps)
named leaf (suc depth) c ps =
    let q : List PointValue = inside c ps in
    elim (cases_lt leaf (length q)) [
      | inl more ↦
          let T : ℕ → Tree = λ g. octree_at leaf depth (child c g) q in
          let node : InnerNode = record { count = length q; voxels = voxels c q; trees = map T (up_to 8) } in
          rw (lt-leb _ _ more) (inner_named node
          (trees_named is_leaf_node leaf_paths T (up_to 8) (λ g. (named leaf depth (child c g) q).leaves))
          (trees_named is_inner_node inner_paths T (up_to 8) (λ g. (named leaf depth (child c g) q).inner)))
      | inr few ↦ rw (le-leb _ _ few) (leaf_named q)
    ]

pub leaf_paths_are : (leaf : ℕ) (c : CubeValue) (ps : List PointValue) → leaf_paths (counted (octree leaf c ps)) ≡ map (λ (n : OutlineNode). n.path) (leaves leaf c ps)
leaf_paths_are leaf c ps = sym ((named leaf (c.bits - 7) c ps).leaves [] c ∙ from_root [] (leaf_paths (counted (octree leaf c ps))) refl)

pub inner_paths_are : (leaf : ℕ) (c : CubeValue) (ps : List PointValue) → inner_paths (counted (octree leaf c ps)) ≡ map (λ (n : OutlineNode). n.path) (filter (λ (n : OutlineNode). n.inner) (outline (octree leaf c ps) c))
inner_paths_are leaf c ps = sym ((named leaf (c.bits - 7) c ps).inner [] c ∙ from_root [] (inner_paths (counted (octree leaf c ps))) refl)
