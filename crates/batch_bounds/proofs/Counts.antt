-- With more points an octree has no fewer nodes.
use Rattle.std.proofs.Common.{◌≡◌, ℕ, zero, suc, ◌-◌, ◌<◌, ◌≤◌, List, [], ◌∷◌, ◌++◌, map, length, sum, inl, inr, arith}
use Rattle.std.proofs.lemmas.Bool.{cases_lt, le-leb, lt-leb}
use Rattle.std.proofs.lemmas.List.{length-append}
use Rattle.std.proofs.lemmas.List.Elements.{filter-append}
use Rattle.std.proofs.lemmas.List.Sums.{sum_by-cons}
use Rattle.cube_math.specs.Points.{PointValue}
use Rattle.cube_math.specs.Cubes.{CubeValue, contains, child}
use Rattle.octree_model.specs.Counts.{nodes}
use Rattle.octree_model.specs.Numbers.{up_to}
use Rattle.octree_model.specs.Octree.{inside, octree, octree_at}
use Rattle.octree_model.specs.Voxels.{voxels}
use Rattle.octree_model.specs.declared.tree.Tree.{Tree}
use Rattle.octree_model.specs.declared.tree.InnerNode.{InnerNode}
use Rattle.octree_model.proofs.CountLaws.{nodes-Leaf, nodes-Inner}

-- sums of numbers that are no less
sums_rise : (T S : ℕ → Tree) (gs : List ℕ) → ((g : ℕ) → nodes (T g) ≤ nodes (S g)) → sum (map nodes (map T gs)) ≤ sum (map nodes (map S gs))
sums_rise T S [] more = omega arith
sums_rise T S (g ∷ gs) more =
    omega (arith, more g, sums_rise T S gs more, sum_by-cons (λ n. n) (nodes (T g)) (map nodes (map T gs)), sum_by-cons (λ n. n) (nodes (S g)) (map nodes (map S gs)))

some_nodes : (leaf depth : ℕ) (c : CubeValue) (ps : List PointValue) → 1 ≤ nodes (octree_at leaf depth c ps)
unfolding octree_at
some_nodes leaf zero c ps = omega (arith, nodes-Leaf (inside c ps))
some_nodes leaf (suc depth) c ps =
    let q : List PointValue = inside c ps in
    elim (cases_lt leaf (length q)) [
      | inl more ↦
          let node : InnerNode = record { count = length q; voxels = voxels c q; trees = map (λ g. octree_at leaf depth (child c g) q) (up_to 8) } in
          rw (lt-leb _ _ more) (omega (arith, nodes-Inner node))
      | inr few ↦ rw (le-leb _ _ few) (omega (arith, nodes-Leaf q))
    ]

nodes_rise_at : (leaf depth : ℕ) (c : CubeValue) (ps qs : List PointValue) → nodes (octree_at leaf depth c ps) ≤ nodes (octree_at leaf depth c (ps ++ qs))
unfolding octree_at
nodes_rise_at leaf zero c ps qs = omega (arith, nodes-Leaf (inside c ps), nodes-Leaf (inside c (ps ++ qs)))
nodes_rise_at leaf (suc depth) c ps qs =
    let a : List PointValue = inside c ps in
    let b : List PointValue = inside c qs in
    let whole : inside c (ps ++ qs) ≡ a ++ b = filter-append (contains c) ps qs in
    elim (cases_lt leaf (length a)) [
      | inl more ↦
          let more' : leaf < length (a ++ b) = omega (arith, length-append a b) in
          let left : InnerNode = record { count = length a; voxels = voxels c a; trees = map (λ g. octree_at leaf depth (child c g) a) (up_to 8) } in
          let right : InnerNode = record { count = length (a ++ b); voxels = voxels c (a ++ b); trees = map (λ g. octree_at leaf depth (child c g) (a ++ b)) (up_to 8) } in
          rw (whole, lt-leb _ _ more, lt-leb _ _ more')
          (omega (arith, nodes-Inner left, nodes-Inner right, sums_rise (λ g. octree_at leaf depth (child c g) a) (λ g. octree_at leaf depth (child c g) (a ++ b)) (up_to 8) (λ g. nodes_rise_at leaf depth (child c g) a b)))
      | inr few ↦ rw (le-leb _ _ few) (omega (arith, nodes-Leaf a, some_nodes leaf (suc depth) c (ps ++ qs)))
    ]

pub nodes_rise : (leaf : ℕ) (c : CubeValue) (ps qs : List PointValue) → nodes (octree leaf c ps) ≤ nodes (octree leaf c (ps ++ qs))
nodes_rise leaf c ps qs = nodes_rise_at leaf (c.bits - 7) c ps qs

one_node_at : (leaf depth : ℕ) (c : CubeValue) → nodes (octree_at leaf depth c []) ≡ 1
unfolding octree_at
one_node_at leaf zero c = nodes-Leaf []
one_node_at leaf (suc depth) c = let none : 0 ≤ leaf = omega arith in rw (le-leb 0 leaf none) (nodes-Leaf [])

-- without points there is one node
pub one_node : (leaf : ℕ) (c : CubeValue) → nodes (octree leaf c []) ≡ 1
one_node leaf c = one_node_at leaf (c.bits - 7) c
