-- What the nodes of an octree have together, and that it is not too much.
use Rattle.std.proofs.Common.{◌≡◌, ℕ, zero, suc, ◌+◌, ◌-◌, ◌*◌, ◌<◌, ◌≤◌, ◌^◌, sum, List, [], ◌∷◌, map, length, ap, ◌∙◌, sym, arith, inl, inr, refl, subst, length-append}
use Rattle.std.proofs.lemmas.Bool.{cases_lt, cases_eq, le-leb, lt-leb}
use Rattle.std.proofs.lemmas.List.{length-map}
use Rattle.std.proofs.lemmas.List.Sums.{sum_by-cons}
use Rattle.std.proofs.Math.Nat.{mul-le-mul, mul-add}
use Rattle.cube_math.specs.Points.{PointValue}
use Rattle.cube_math.specs.Cubes.{CubeValue, cell, child}
use Rattle.octree_model.specs.Numbers.{up_to, with_number, ascending}
use Rattle.octree_model.specs.Voxels.{VoxelValue, voxels, cell_colour}
use Rattle.octree_model.specs.Octree.{inside, octree_at, octree}
use Rattle.octree_model.specs.Bags.{joined, leaf_points}
use Rattle.octree_model.specs.Counts.{nodes}
use Rattle.octree_model.specs.Shapes.{IsOctree}
use Rattle.octree_model.specs.declared.tree.Tree.{Tree}
use Rattle.octree_model.specs.declared.tree.Tree.TheOpen.{Tree-F}
use Rattle.octree_model.specs.declared.tree.Tree.TheFolds.{fold-roll-Tree, fold-roll-InnerNode}
use Rattle.octree_model.specs.declared.tree.Tree.TheVariants.{Leaf, Inner, rolls-Leaf, rolls-Inner}
use Rattle.octree_model.specs.declared.tree.InnerNode.{InnerNode}
use Rattle.octree_model.proofs.AscendingLaws.{with_number_before, with_number_at, with_number_behind}
use Rattle.octree_model.proofs.BagLaws.{leaf_points-Inner}
use Rattle.octree_model.proofs.CountLaws.{nodes-Leaf, nodes-Inner}
use Rattle.octree_model.proofs.ShapeLaws.{few_inside}
use Rattle.octree_plain.specs.Summary.{total, tree_total, node_total, leaf_count, inner_count, voxel_count}
use Rattle.octree_plain.proofs.NodeLaws.{leaves_hold, nodes_fit}

pub total-Leaf : (leaf : ℕ) (inner : List VoxelValue → ℕ) (ps : List PointValue) → total leaf inner (Leaf ps) ≡ leaf
total-Leaf leaf inner ps = ap (total leaf inner) (sym (rolls-Leaf ps)) ∙ fold-roll-Tree ℕ ℕ (tree_total leaf) (node_total inner) (Tree-F.Leaf ps)

pub total-Inner : (leaf : ℕ) (inner : List VoxelValue → ℕ) (n : InnerNode) → total leaf inner (Inner n) ≡ inner n.voxels + sum (map (total leaf inner) n.trees)
total-Inner leaf inner n = ap (total leaf inner) (sym (rolls-Inner n)) ∙ fold-roll-Tree ℕ ℕ (tree_total leaf) (node_total inner) (Tree-F.Inner n)
    ∙ fold-roll-InnerNode ℕ ℕ (tree_total leaf) (node_total inner) record { count = n.count; voxels = n.voxels; trees = n.trees }

-- ---- leaves and inner nodes are all nodes
kinds_sum : (T : ℕ → Tree) (gs : List ℕ) → ((g : ℕ) → leaf_count (T g) + inner_count (T g) ≡ nodes (T g))
    → sum (map leaf_count (map T gs)) + sum (map inner_count (map T gs)) ≡ sum (map nodes (map T gs))
kinds_sum T [] h = refl
kinds_sum T (g ∷ gs) h =
    let leaves : sum (map leaf_count (map T (g ∷ gs))) ≡ leaf_count (T g) + sum (map leaf_count (map T gs)) = sum_by-cons (λ m. m) (leaf_count (T g)) (map leaf_count (map T gs)) in
    let inner : sum (map inner_count (map T (g ∷ gs))) ≡ inner_count (T g) + sum (map inner_count (map T gs)) = sum_by-cons (λ m. m) (inner_count (T g)) (map inner_count (map T gs)) in
    let all : sum (map nodes (map T (g ∷ gs))) ≡ nodes (T g) + sum (map nodes (map T gs)) = sum_by-cons (λ m. m) (nodes (T g)) (map nodes (map T gs)) in
    omega (arith, leaves, inner, all, h g, kinds_sum T gs h)

kinds_node : (T : ℕ → Tree) (gs : List ℕ) (n : InnerNode) → n.trees ≡ map T gs → ((g : ℕ) → leaf_count (T g) + inner_count (T g) ≡ nodes (T g))
    → leaf_count (Inner n) + inner_count (Inner n) ≡ nodes (Inner n)
kinds_node T gs n is h =
    let leaves : leaf_count (Inner n) ≡ 0 + sum (map leaf_count (map T gs)) = total-Inner 1 (λ vs. 0) n ∙ ap (λ (ts : List Tree). 0 + sum (map leaf_count ts)) is in
    let inner : inner_count (Inner n) ≡ 1 + sum (map inner_count (map T gs)) = total-Inner 0 (λ vs. 1) n ∙ ap (λ (ts : List Tree). 1 + sum (map inner_count ts)) is in
    let all : nodes (Inner n) ≡ 1 + sum (map nodes (map T gs)) = nodes-Inner n ∙ ap (λ (ts : List Tree). 1 + sum (map nodes ts)) is in
    omega (arith, leaves, inner, all, kinds_sum T gs h)

kinds_leaf : (ps : List PointValue) → leaf_count (Leaf ps) + inner_count (Leaf ps) ≡ nodes (Leaf ps)
kinds_leaf ps = omega (arith, total-Leaf 1 (λ vs. 0) ps, total-Leaf 0 (λ vs. 1) ps, nodes-Leaf ps)

AreKinds : Tree → Type 0
AreKinds t = leaf_count t + inner_count t ≡ nodes t

kinds : (leaf depth : ℕ) (c : CubeValue) (ps : List PointValue) → AreKinds (octree_at leaf depth c ps)
unfolding octree_at AreKinds
kinds leaf zero c ps = kinds_leaf (inside c ps)
kinds leaf (suc depth) c ps =
    let q : List PointValue = inside c ps in
    elim (cases_lt leaf (length q)) [
      | inl more ↦
          let node : InnerNode = record { count = length q; voxels = voxels c q; trees = map (λ g. octree_at leaf depth (child c g) q) (up_to 8) } in
          let is : octree_at leaf (suc depth) c ps ≡ Inner node = rw (lt-leb _ _ more) refl in
          subst AreKinds (sym is) (kinds_node (λ g. octree_at leaf depth (child c g) q) (up_to 8) node refl (λ g. kinds leaf depth (child c g) q))
      | inr few ↦
          let is : octree_at leaf (suc depth) c ps ≡ Leaf q = rw (le-leb _ _ few) refl in
          subst AreKinds (sym is) (kinds_leaf q)
    ]

-- ---- a node has no more voxels than points
length-with_number_below : (z : ℕ) (ks : List ℕ) → length (with_number z ks) ≤ length ks + 1
length-with_number_below z [] = omega arith
length-with_number_below z (k ∷ ks) = elim (cases_lt z k) [
  | inl before ↦ omega (arith, ap length (with_number_before z k ks before))
  | inr not_before ↦ elim (cases_eq z k) [
    | inl same ↦ omega (arith, ap length (with_number_at z k ks same))
    | inr other ↦ omega (arith, ap length (with_number_behind z k ks (omega arith)), length-with_number_below z ks)
  ]
]

length-ascending_below : (ns : List ℕ) → length (ascending ns) ≤ length ns
length-ascending_below [] = omega arith
length-ascending_below (n ∷ ns) = omega (arith, length-with_number_below n (ascending ns), length-ascending_below ns)

few_voxels : (c : CubeValue) (ps : List PointValue) → length (voxels c ps) ≤ length ps
unfolding voxels
few_voxels c ps =
    let one : ℕ → VoxelValue = λ z. record { cell = z; rgb = cell_colour c ps z } in
    omega (arith, length-map (ascending (map (cell c) ps)) one, length-ascending_below (map (cell c) ps), length-map ps (cell c))

-- ---- on each level that splits, as many voxels as points
voxels_sum : (T : ℕ → Tree) (gs : List ℕ) (k : ℕ) → ((g : ℕ) → voxel_count (T g) ≤ k * length (leaf_points (T g)))
    → sum (map voxel_count (map T gs)) ≤ k * length (joined (map leaf_points (map T gs)))
voxels_sum T [] k h = omega arith
voxels_sum T (g ∷ gs) k h =
    let all : sum (map voxel_count (map T (g ∷ gs))) ≡ voxel_count (T g) + sum (map voxel_count (map T gs)) = sum_by-cons (λ m. m) (voxel_count (T g)) (map voxel_count (map T gs)) in
    let long : length (joined (map leaf_points (map T (g ∷ gs)))) ≡ length (leaf_points (T g)) + length (joined (map leaf_points (map T gs))) =
    length-append (leaf_points (T g)) (joined (map leaf_points (map T gs))) in
    let product : k * length (joined (map leaf_points (map T (g ∷ gs)))) ≡ k * length (leaf_points (T g)) + k * length (joined (map leaf_points (map T gs))) =
    ap (λ m. k * m) long ∙ mul-add k (length (leaf_points (T g))) (length (joined (map leaf_points (map T gs)))) in
    omega (arith, all, product, h g, voxels_sum T gs k h)

HasFew : ℕ → Tree → Type 0
HasFew k t = voxel_count t ≤ k * length (leaf_points t)

voxels_node : (T : ℕ → Tree) (gs : List ℕ) (n : InnerNode) (k : ℕ) → n.trees ≡ map T gs → length n.voxels ≤ length (leaf_points (Inner n)) → ((g : ℕ) → HasFew k (T g)) → HasFew (suc k) (Inner n)
unfolding HasFew
voxels_node T gs n k is few h =
    let below : sum (map voxel_count (map T gs)) ≤ k * length (joined (map leaf_points (map T gs))) = voxels_sum T gs k h in
    let held : leaf_points (Inner n) ≡ joined (map leaf_points (map T gs)) = leaf_points-Inner n ∙ ap (λ (ts : List Tree). joined (map leaf_points ts)) is in
    let all : voxel_count (Inner n) ≡ length n.voxels + sum (map voxel_count (map T gs)) = total-Inner 0 (λ vs. length vs) n ∙ ap (λ (ts : List Tree). length n.voxels + sum (map voxel_count ts)) is in
    let product : k * length (leaf_points (Inner n)) ≡ k * length (joined (map leaf_points (map T gs))) = ap (λ (ps : List PointValue). k * length ps) held in
    omega (arith, below, all, product, few)

voxels_below : (leaf depth : ℕ) (c : CubeValue) (ps : List PointValue) → depth ≤ c.bits → HasFew depth (octree_at leaf depth c ps)
unfolding octree_at HasFew
voxels_below leaf zero c ps l = omega (arith, total-Leaf 0 (λ vs. length vs) (inside c ps))
voxels_below leaf (suc depth) c ps l =
    let q : List PointValue = inside c ps in
    elim (cases_lt leaf (length q)) [
      | inl more ↦
          let node : InnerNode = record { count = length q; voxels = voxels c q; trees = map (λ g. octree_at leaf depth (child c g) q) (up_to 8) } in
          let is : octree_at leaf (suc depth) c ps ≡ Inner node = rw (lt-leb _ _ more) refl in
          let few : length (voxels c q) ≤ length (leaf_points (Inner node)) = omega (arith, few_voxels c q, leaves_hold leaf (suc depth) c ps l, ap (λ (t : Tree). length (leaf_points t)) is) in
          subst (HasFew (suc depth)) (sym is) (voxels_node (λ g. octree_at leaf depth (child c g) q) (up_to 8) node depth refl few (λ g. voxels_below leaf depth (child c g) q (omega arith)))
      | inr none ↦
          let is : octree_at leaf (suc depth) c ps ≡ Leaf q = rw (le-leb _ _ none) refl in
          let few : voxel_count (Leaf q) ≤ suc depth * length (leaf_points (Leaf q)) = omega (arith, total-Leaf 0 (λ vs. length vs) q) in
          subst (HasFew (suc depth)) (sym is) few
    ]

-- what an octree has is not too much to be counted
pub record HasSmallTotals (t : Tree) : Type 0 where
  pub leaves : leaf_count t < 2 ^ 64
  pub inner : inner_count t < 2 ^ 64
  pub voxels : voxel_count t ≤ 2 ^ 38

pub totals_fit : (t : Tree) → IsOctree t → HasSmallTotals t
unfolding AreKinds HasFew
totals_fit t o =
    let c : CubeValue = o.cube in
    let ps : List PointValue = o.octree.points in
    let depth : ℕ = c.bits - 7 in
    let all : leaf_count t + inner_count t ≡ nodes t = subst AreKinds (sym o.octree.is) (kinds o.octree.leaf depth c ps) in
    let below : voxel_count (octree o.octree.leaf c ps) ≤ depth * length (leaf_points (octree o.octree.leaf c ps)) = voxels_below o.octree.leaf depth c ps (omega arith) in
    let held : length (leaf_points (octree o.octree.leaf c ps)) ≡ length (inside c ps) = leaves_hold o.octree.leaf depth c ps (omega arith) in
    let few : length (inside c ps) < 2 ^ 32 = omega (arith, few_inside c ps, o.octree.few) in
    let levels : depth ≤ 24 = omega (arith, o.fits.bits_high) in
    let points : length (leaf_points (octree o.octree.leaf c ps)) ≤ 2 ^ 32 = omega arith in
    let product : depth * length (leaf_points (octree o.octree.leaf c ps)) ≤ 24 * 2 ^ 32 = mul-le-mul levels points in
    let counted : voxel_count t ≡ voxel_count (octree o.octree.leaf c ps) = ap voxel_count o.octree.is in
    record {
      leaves = omega (arith, all, nodes_fit t o);
      inner = omega (arith, all, nodes_fit t o);
      voxels = omega (arith, counted, below, product);
    }
