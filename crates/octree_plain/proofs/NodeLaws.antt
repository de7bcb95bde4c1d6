-- How many nodes and points an octree has.
use Rattle.std.proofs.Common.{◌≡◌, ℕ, zero, suc, ◌+◌, ◌-◌, ◌*◌, ◌<◌, ◌≤◌, ◌^◌, true, count_by, sum, List, [], ◌∷◌, map, length, ap, ◌∙◌, sym, arith, inl, inr, refl, subst, length-append}
use Rattle.std.proofs.lemmas.Bool.{cases_lt, le-leb, lt-leb}
use Rattle.std.proofs.lemmas.List.Sums.{sum_by-cons}
use Rattle.std.proofs.Math.Nat.{mul-le-mul, mul-add}
use Rattle.cube_math.specs.Points.{PointValue}
use Rattle.cube_math.specs.Cubes.{CubeValue, child}
use Rattle.octree_model.specs.Numbers.{up_to}
use Rattle.octree_model.specs.Voxels.{voxels}
use Rattle.octree_model.specs.Octree.{inside, octree_at, octree}
use Rattle.octree_model.specs.Bags.{joined, leaf_points}
use Rattle.octree_model.specs.Counts.{nodes}
use Rattle.octree_model.specs.Shapes.{IsOctree, IsOctreeIn}
use Rattle.octree_model.specs.declared.tree.Tree.{Tree}
use Rattle.octree_model.specs.declared.tree.Tree.TheVariants.{Leaf, Inner}
use Rattle.octree_model.specs.declared.tree.InnerNode.{InnerNode}
use Rattle.octree_model.proofs.BagLaws.{same_points, leaf_points-Inner}
use Rattle.octree_model.proofs.CountLaws.{nodes-Leaf, nodes-Inner}
use Rattle.octree_model.proofs.NumberLaws.{length-up_to}
use Rattle.octree_model.proofs.ShapeLaws.{IsNodeOf, node_of, few_inside}

-- a test that always passes counts all
all_counted : (ps : List PointValue) → count_by (λ p. true) ps ≡ length ps
all_counted [] = refl
all_counted (p ∷ ps) = omega (arith, sum_by-cons (λ q. 1) p ps, all_counted ps)

-- the leaves have as many points as lie in the cube
pub leaves_hold : (leaf depth : ℕ) (c : CubeValue) (ps : List PointValue) → depth ≤ c.bits → length (leaf_points (octree_at leaf depth c ps)) ≡ length (inside c ps)
leaves_hold leaf depth c ps l = sym (all_counted (leaf_points (octree_at leaf depth c ps))) ∙ same_points (λ p. true) leaf depth c ps l ∙ all_counted (inside c ps)

-- the number that an inner node keeps
pub count_is_points : (c : CubeValue) (n : InnerNode) → IsOctreeIn c (Inner n) → n.count ≡ length (leaf_points (Inner n))
count_is_points c n o =
    let node : IsNodeOf c o.leaf (inside c o.points) n = node_of c n o in
    node.count ∙ sym (ap (λ (t : Tree). length (leaf_points t)) o.is ∙ leaves_hold o.leaf (c.bits - 7) c o.points (omega arith))

-- trees with one node, and so many for each point, have together at most one each, and so many for each point
sum_below : (T : ℕ → Tree) (gs : List ℕ) (k : ℕ) → ((g : ℕ) → nodes (T g) ≤ 1 + k * length (leaf_points (T g)))
    → sum (map nodes (map T gs)) ≤ length gs + k * length (joined (map leaf_points (map T gs)))
sum_below T [] k h = omega arith
sum_below T (g ∷ gs) k h =
    let first : nodes (T g) ≤ 1 + k * length (leaf_points (T g)) = h g in
    let rest : sum (map nodes (map T gs)) ≤ length gs + k * length (joined (map leaf_points (map T gs))) = sum_below T gs k h in
    let all : sum (map nodes (map T (g ∷ gs))) ≡ nodes (T g) + sum (map nodes (map T gs)) = sum_by-cons (λ m. m) (nodes (T g)) (map nodes (map T gs)) in
    let long : length (joined (map leaf_points (map T (g ∷ gs)))) ≡ length (leaf_points (T g)) + length (joined (map leaf_points (map T gs))) =
    length-append (leaf_points (T g)) (joined (map leaf_points (map T gs))) in
    let product : k * length (joined (map leaf_points (map T (g ∷ gs)))) ≡ k * length (leaf_points (T g)) + k * length (joined (map leaf_points (map T gs))) =
    ap (λ m. k * m) long ∙ mul-add k (length (leaf_points (T g))) (length (joined (map leaf_points (map T gs)))) in
    omega arith

-- an inner node with points has itself, its children and what is below them
node_below : (T : ℕ → Tree) (n : InnerNode) (k : ℕ) → n.trees ≡ map T (up_to 8) → 0 < length (leaf_points (Inner n)) → ((g : ℕ) → nodes (T g) ≤ 1 + k * length (leaf_points (T g)))
    → nodes (Inner n) ≤ 1 + (8 + k) * length (leaf_points (Inner n))
node_below T n k is some h =
    let below : sum (map nodes (map T (up_to 8))) ≤ length (up_to 8) + k * length (joined (map leaf_points (map T (up_to 8)))) = sum_below T (up_to 8) k h in
    let held : leaf_points (Inner n) ≡ joined (map leaf_points (map T (up_to 8))) = leaf_points-Inner n ∙ ap (λ (ts : List Tree). joined (map leaf_points ts)) is in
    let all : nodes (Inner n) ≡ 1 + sum (map nodes (map T (up_to 8))) = nodes-Inner n ∙ ap (λ (ts : List Tree). 1 + sum (map nodes ts)) is in
    let product : k * length (leaf_points (Inner n)) ≡ k * length (joined (map leaf_points (map T (up_to 8)))) = ap (λ (ps : List PointValue). k * length ps) held in
    let eight : length (up_to 8) ≡ 8 = length-up_to 8 in
    omega arith

-- an octree has at most one node, and eight for each of its points on each level that splits
nodes_below : (leaf depth : ℕ) (c : CubeValue) (ps : List PointValue) → depth ≤ c.bits
    → nodes (octree_at leaf depth c ps) ≤ 1 + 8 * depth * length (leaf_points (octree_at leaf depth c ps))
unfolding octree_at
nodes_below leaf zero c ps l = omega (arith, nodes-Leaf (inside c ps))
nodes_below leaf (suc depth) c ps l =
    let q : List PointValue = inside c ps in
    elim (cases_lt leaf (length q)) [
      | inl more ↦
          let node : InnerNode = record { count = length q; voxels = voxels c q; trees = map (λ g. octree_at leaf depth (child c g) q) (up_to 8) } in
          let is : octree_at leaf (suc depth) c ps ≡ Inner node = rw (lt-leb _ _ more) refl in
          let some : 0 < length (leaf_points (Inner node)) = omega (arith, leaves_hold leaf (suc depth) c ps l, ap (λ (t : Tree). length (leaf_points t)) is) in
          let below : nodes (Inner node) ≤ 1 + (8 + 8 * depth) * length (leaf_points (Inner node)) =
          node_below (λ g. octree_at leaf depth (child c g) q) node (8 * depth) refl some (λ g. nodes_below leaf depth (child c g) q (omega arith)) in
          let P : Tree → Type 0 = λ t. nodes t ≤ 1 + (8 + 8 * depth) * length (leaf_points t) in
          let all : nodes (octree_at leaf (suc depth) c ps) ≤ 1 + (8 + 8 * depth) * length (leaf_points (octree_at leaf (suc depth) c ps)) = subst P (sym is) below in
          omega arith
      | inr few ↦
          let is : octree_at leaf (suc depth) c ps ≡ Leaf q = rw (le-leb _ _ few) refl in
          omega (arith, ap nodes is, nodes-Leaf q)
    ]

pub nodes_fit : (t : Tree) → IsOctree t → nodes t < 2 ^ 64
nodes_fit t o =
    let c : CubeValue = o.cube in
    let ps : List PointValue = o.octree.points in
    let depth : ℕ = c.bits - 7 in
    let below : nodes (octree o.octree.leaf c ps) ≤ 1 + 8 * depth * length (leaf_points (octree o.octree.leaf c ps)) = nodes_below o.octree.leaf depth c ps (omega arith) in
    let held : length (leaf_points (octree o.octree.leaf c ps)) ≡ length (inside c ps) = leaves_hold o.octree.leaf depth c ps (omega arith) in
    let few : length (inside c ps) < 2 ^ 32 = omega (arith, few_inside c ps, o.octree.few) in
    let levels : 8 * depth ≤ 192 = omega (arith, o.fits.bits_high) in
    let points : length (leaf_points (octree o.octree.leaf c ps)) ≤ 2 ^ 32 = omega arith in
    let product : 8 * depth * length (leaf_points (octree o.octree.leaf c ps)) ≤ 192 * 2 ^ 32 = mul-le-mul levels points in
    omega (arith, ap nodes o.octree.is)
