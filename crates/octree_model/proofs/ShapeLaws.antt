-- The way down an octree: what an inner node is, and that the trees below it are octrees in the child cubes.
use Rattle.std.proofs.Common.{◌≡◌, ℕ, zero, suc, ◌-◌, ◌<◌, ◌≤◌, ◌^◌, List, map, length, get_or, ap, ◌∙◌, sym, arith, inl, inr, refl, subst}
use Rattle.std.proofs.lemmas.Bool.{cases_lt, le-leb, lt-leb}
use Rattle.std.proofs.lemmas.List.{length-map}
use Rattle.std.proofs.lemmas.List.Sums.{length-filter, count_by-le-length}
use Rattle.cube_math.specs.Points.{PointValue}
use Rattle.cube_math.specs.Cubes.{CubeValue, contains, child}
use Rattle.octree_model.specs.Numbers.{up_to}
use Rattle.octree_model.specs.Voxels.{voxels}
use Rattle.octree_model.specs.Octree.{inside, octree_at, octree}
use Rattle.octree_model.specs.Shapes.{IsOctreeIn}
use Rattle.octree_model.specs.declared.tree.Tree.{Tree, out-Tree, out-roll-Tree}
use Rattle.octree_model.specs.declared.tree.Tree.TheOpen.{Tree-F}
use Rattle.octree_model.specs.declared.tree.Tree.TheVariants.{Leaf, Inner, rolls-Leaf, rolls-Inner}
use Rattle.octree_model.specs.declared.tree.InnerNode.{InnerNode}
use Rattle.octree_model.proofs.NumberLaws.{at_up_to, length-up_to}

out-Leaf : (ps : List PointValue) → out-Tree (Leaf ps) ≡ Tree-F.Leaf ps
out-Leaf ps = ap out-Tree (sym (rolls-Leaf ps)) ∙ out-roll-Tree (Tree-F.Leaf ps)

out-Inner : (n : InnerNode) → out-Tree (Inner n) ≡ Tree-F.Inner n
out-Inner n = ap out-Tree (sym (rolls-Inner n)) ∙ out-roll-Tree (Tree-F.Inner n)

-- an inner node is no leaf, and has one record
no_leaf : (n : InnerNode) (ps : List PointValue) → Inner n ≡ Leaf ps → ⊥
no_leaf n ps e = let same : Tree-F.Inner n ≡ Tree-F.Leaf ps = sym (out-Inner n) ∙ ap out-Tree e ∙ out-Leaf ps in cc

same_node : (m n : InnerNode) → Inner m ≡ Inner n → m ≡ n
same_node m n e = let same : Tree-F.Inner m ≡ Tree-F.Inner n = sym (out-Inner m) ∙ ap out-Tree e ∙ out-Inner n in cc

-- the inner node of these points in a cube
pub record IsNodeOf (cube : CubeValue) (leaf : ℕ) (points : List PointValue) (node : InnerNode) : Type 0 where
  pub splits : 7 < cube.bits
  pub some : 0 < length points
  pub few : length points < 2 ^ 32
  pub count : node.count ≡ length points
  pub trees : node.trees ≡ map (λ g. octree leaf (child cube g) points) (up_to 8)

pub few_inside : (c : CubeValue) (ps : List PointValue) → length (inside c ps) ≤ length ps
few_inside c ps = omega (arith, length-filter (contains c) ps, count_by-le-length (contains c) ps)

node_at : (leaf depth : ℕ) (c : CubeValue) (ps : List PointValue) (n : InnerNode) → depth ≡ c.bits - 7 → length ps < 2 ^ 32 → Inner n ≡ octree_at leaf depth c ps → IsNodeOf c leaf (inside c ps) n
unfolding octree_at
node_at leaf zero c ps n d few e = absurd (no_leaf n (inside c ps) e)
node_at leaf (suc depth) c ps n d few e =
    let q : List PointValue = inside c ps in
    elim (cases_lt leaf (length q)) [
      | inl more ↦
          let same : n ≡ record { count = length q; voxels = voxels c q; trees = map (λ g. octree_at leaf depth (child c g) q) (up_to 8) } =
          same_node n _ (rw (lt-leb _ _ more) at e) in
          let below : depth ≡ c.bits - 1 - 7 = omega arith in
          record {
            splits = omega arith;
            some = omega arith;
            few = omega (arith, few_inside c ps);
            count = ap (λ (m : InnerNode). m.count) same;
            trees = ap (λ (m : InnerNode). m.trees) same ∙ ap (λ k. map (λ g. octree_at leaf k (child c g) q) (up_to 8)) below;
          }
      | inr few ↦ absurd (no_leaf n q (rw (le-leb _ _ few) at e))
    ]

pub node_of : (c : CubeValue) (n : InnerNode) (o : IsOctreeIn c (Inner n)) → IsNodeOf c o.leaf (inside c o.points) n
node_of c n o = node_at o.leaf (c.bits - 7) c o.points n refl o.few o.is

pub eight : (c : CubeValue) (leaf : ℕ) (ps : List PointValue) (n : InnerNode) → IsNodeOf c leaf ps n → length n.trees ≡ 8
eight c leaf ps n node = ap length node.trees ∙ length-map (up_to 8) (λ g. octree leaf (child c g) ps) ∙ length-up_to 8

-- the tree below in an octant is an octree there
pub child_of : (c : CubeValue) (leaf : ℕ) (ps : List PointValue) (n : InnerNode) (g : ℕ) (t : Tree) → IsNodeOf c leaf ps n → g < length n.trees → t ≡ get_or n.trees g t → IsOctreeIn (child c g) t
child_of c leaf ps n g t node here is =
    let low : g < 8 = omega (arith, eight c leaf ps n node) in
    record {
      leaf = leaf;
      points = ps;
      few = node.few;
      is = is ∙ ap (λ (ts : List Tree). get_or ts g t) node.trees ∙ at_up_to (λ k. octree leaf (child c k) ps) 8 g t low;
    }

-- what the way down needs of an inner node, by its cube
pub record IsInnerIn (cube : CubeValue) (n : InnerNode) : Type 0 where
  pub splits : 7 < cube.bits
  pub eight : length n.trees ≡ 8
  pub below : (g : ℕ) (t : Tree) → g < 8 → t ≡ get_or n.trees g t → IsOctreeIn (child cube g) t

pub inner_in : (cube : CubeValue) (t : Tree) (n : InnerNode) → IsOctreeIn cube t → t ≡ Inner n → IsInnerIn cube n
inner_in cube t n octree is =
    let o : IsOctreeIn cube (Inner n) = subst (IsOctreeIn cube) is octree in
    let node : IsNodeOf cube o.leaf (inside cube o.points) n = node_of cube n o in
    let all : length n.trees ≡ 8 = eight cube o.leaf (inside cube o.points) n node in
    record {
      splits = node.splits;
      eight = all;
      below = λ g u low at. child_of cube o.leaf (inside cube o.points) n g u node (omega arith) at;
    }
