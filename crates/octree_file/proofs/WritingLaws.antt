-- What an octree's spelling needs of its nodes: few points, few voxels, and octrees below.
use Rattle.std.proofs.Common.{◌≡◌, ℕ, zero, suc, ◌+◌, ◌-◌, ◌^◌, ◌<◌, ◌≤◌, inl, inr, List, [], ◌∷◌, ◌++◌, map, flat_map, length, get_or, sum, ap, ◌∙◌, sym, refl, arith, subst, append_assoc}
use Rattle.std.proofs.lemmas.Bool.{cases_lt, lt-leb, le-leb}
use Rattle.cube_math.specs.Points.{PointValue}
use Rattle.cube_math.specs.Cubes.{CubeValue, child}
use Rattle.octree_model.specs.Bags.{IsSameBag, leaf_points}
use Rattle.octree_model.specs.Numbers.{up_to}
use Rattle.octree_model.specs.Octree.{inside, octree, octree_at}
use Rattle.octree_model.specs.Shapes.{IsOctreeIn}
use Rattle.octree_model.specs.Voxels.{voxels}
use Rattle.octree_model.specs.declared.tree.Tree.{Tree, out-Tree, out-roll-Tree}
use Rattle.octree_model.specs.declared.tree.Tree.TheOpen.{Tree-F}
use Rattle.octree_model.specs.declared.tree.Tree.TheVariants.{Leaf, Inner, rolls-Leaf, rolls-Inner}
use Rattle.octree_model.specs.declared.tree.InnerNode.{InnerNode}
use Rattle.octree_model.proofs.BagLaws.{leaf_points-Leaf, same_points}
use Rattle.octree_model.proofs.SameBagLaws.{same_length}
use Rattle.octree_model.proofs.ShapeLaws.{few_inside}
use Rattle.octree_file.specs.Descent.{IsOctreeSomewhere}
use Rattle.octree_file.specs.Spelling.{spelling, u32_bytes, voxel_bytes}
use Rattle.octree_file.proofs.SpellingLaws.{before_trees, spelling-Inner}
use Rattle.octree_file.proofs.VoxelLaws.{few_voxels}

-- ---- points of a leaf
bag_of : (leaf : ℕ) (c : CubeValue) (ps : List PointValue) → IsSameBag (leaf_points (octree leaf c ps)) (inside c ps)
bag_of leaf c ps t = same_points t leaf (c.bits - 7) c ps (omega arith)

pub few_in_leaf : (t : Tree) (ps : List PointValue) → IsOctreeSomewhere t → t ≡ Leaf ps → length ps < 2 ^ 32
few_in_leaf t ps o is =
    let all : List PointValue = o.octree.points in
    let own : length ps ≡ length (leaf_points (octree o.octree.leaf o.cube all)) =
    ap length (sym (leaf_points-Leaf ps) ∙ ap leaf_points (sym is ∙ o.octree.is)) in
    let held : length (leaf_points (octree o.octree.leaf o.cube all)) ≡ length (inside o.cube all) = same_length _ _ (bag_of o.octree.leaf o.cube all) in
    omega (arith, few_inside o.cube all, o.octree.few)

-- ---- voxels of an inner node
out-Leaf : (ps : List PointValue) → out-Tree (Leaf ps) ≡ Tree-F.Leaf ps
out-Leaf ps = ap out-Tree (sym (rolls-Leaf ps)) ∙ out-roll-Tree (Tree-F.Leaf ps)

out-Inner : (n : InnerNode) → out-Tree (Inner n) ≡ Tree-F.Inner n
out-Inner n = ap out-Tree (sym (rolls-Inner n)) ∙ out-roll-Tree (Tree-F.Inner n)

no_leaf : (n : InnerNode) (ps : List PointValue) → Inner n ≡ Leaf ps → ⊥
no_leaf n ps e = let same : Tree-F.Inner n ≡ Tree-F.Leaf ps = sym (out-Inner n) ∙ ap out-Tree e ∙ out-Leaf ps in cc

same_node : (m n : InnerNode) → Inner m ≡ Inner n → m ≡ n
same_node m n e = let same : Tree-F.Inner m ≡ Tree-F.Inner n = sym (out-Inner m) ∙ ap out-Tree e ∙ out-Inner n in cc

voxels_at : (leaf depth : ℕ) (c : CubeValue) (ps : List PointValue) (n : InnerNode) → Inner n ≡ octree_at leaf depth c ps → n.voxels ≡ voxels c (inside c ps)
unfolding octree_at
voxels_at leaf zero c ps n e = absurd (no_leaf n (inside c ps) e)
voxels_at leaf (suc depth) c ps n e =
    let q : List PointValue = inside c ps in
    elim (cases_lt leaf (length q)) [
      | inl more ↦
          let same : n ≡ record { count = length q; voxels = voxels c q; trees = map (λ g. octree_at leaf depth (child c g) q) (up_to 8) } =
          same_node n _ (rw (lt-leb _ _ more) at e) in
          ap (λ (m : InnerNode). m.voxels) same
      | inr few ↦ absurd (no_leaf n q (rw (le-leb _ _ few) at e))
    ]

pub few_in_node : (t : Tree) (n : InnerNode) → IsOctreeSomewhere t → t ≡ Inner n → length n.voxels < 2 ^ 32
few_in_node t n o is =
    let all : List PointValue = o.octree.points in
    let own : n.voxels ≡ voxels o.cube (inside o.cube all) = voxels_at o.octree.leaf (o.cube.bits - 7) o.cube all n (sym is ∙ o.octree.is) in
    omega (arith, ap length own, few_voxels o.cube (inside o.cube all), few_inside o.cube all, o.octree.few)

-- ---- what is written
pub node_written : (t : Tree) (n : InnerNode) (old mid : List ℕ) → t ≡ Inner n → mid ≡ old ++ before_trees n
    → mid ++ flat_map spelling n.trees ≡ old ++ spelling t
node_written t n old mid is written =
    ap (λ (l : List ℕ). l ++ flat_map spelling n.trees) written ∙ append_assoc old (before_trees n) (flat_map spelling n.trees)
    ∙ ap (λ (l : List ℕ). old ++ l) (sym (spelling-Inner n) ∙ ap spelling (sym is))

pub four_written : (x y z w old a b c new : List ℕ) → a ≡ old ++ x → b ≡ a ++ y → c ≡ b ++ z → new ≡ c ++ w → new ≡ old ++ (x ++ y ++ z ++ w)
four_written x y z w old a b c new ea eb ec en =
    en ∙ ap (λ (l : List ℕ). l ++ w) (ec ∙ ap (λ (l : List ℕ). l ++ z) (eb ∙ ap (λ (l : List ℕ). l ++ y) ea)) ∙ whole
  where
    whole : old ++ x ++ y ++ z ++ w ≡ old ++ (x ++ y ++ z ++ w)
    whole = simp append_assoc

pub six_written : (s x y z v w old a b c d e new : List ℕ) → a ≡ old ++ s → b ≡ a ++ x → c ≡ b ++ y → d ≡ c ++ z → e ≡ d ++ v → new ≡ e ++ w
    → new ≡ old ++ (s ++ x ++ y ++ z ++ v ++ w)
six_written s x y z v w old a b c d e new ea eb ec ed ee en =
    en
    ∙ ap (λ (l : List ℕ). l ++ w)
    (ee ∙ ap (λ (l : List ℕ). l ++ v) (ed ∙ ap (λ (l : List ℕ). l ++ z) (ec ∙ ap (λ (l : List ℕ). l ++ y) (eb ∙ ap (λ (l : List ℕ). l ++ x) ea))))
    ∙ whole
  where
    whole : old ++ s ++ x ++ y ++ z ++ v ++ w ≡ old ++ (s ++ x ++ y ++ z ++ v ++ w)
    whole = simp append_assoc
