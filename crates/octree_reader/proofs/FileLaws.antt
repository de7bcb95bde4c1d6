-- The nodes of the file of an octree, and the octree of the points that stand in them.
use Rattle.std.proofs.Common.{◌≡◌, ℕ, zero, suc, ◌+◌, ◌-◌, ◌^◌, ◌<◌, ◌≤◌, inl, inr, Bool, true, false, not, cond, List, [], ◌∷◌, ◌++◌, map, flat_map, length, drop, count_by, ap, ◌∙◌, sym, refl, arith, subst, IsTrue, append_assoc, nat_le}
use Rattle.std.specs.List.{All, AllByRecursion}
use Rattle.std.proofs.lemmas.Bool.{cases_lt, lt-leb, le-leb}
use Rattle.std.proofs.lemmas.List.{append-nil, map-append}
use Rattle.std.proofs.lemmas.List.Concat.{flat_map-append}
use Rattle.std.proofs.lemmas.List.Elements.{All-from_recursion, recursion_from_All, filter_passes}
use Rattle.std.proofs.lemmas.List.Sums.{sum_by-append}
use Rattle.cube_math.specs.Points.{PointValue}
use Rattle.cube_math.specs.Cubes.{CubeValue, contains, child}
use Rattle.octree_model.specs.Bags.{IsSameBag, joined, leaf_points}
use Rattle.octree_model.specs.Facts.{FactsAt, facts}
use Rattle.octree_model.specs.Numbers.{up_to}
use Rattle.octree_model.specs.Octree.{inside, octree, octree_at}
use Rattle.octree_model.specs.Voxels.{voxels}
use Rattle.octree_model.specs.declared.tree.Tree.{Tree}
use Rattle.octree_model.specs.declared.tree.Tree.TheVariants.{Leaf, Inner}
use Rattle.octree_model.proofs.BagLaws.{leaf_points-Leaf, leaf_points-Inner, same_points}
use Rattle.octree_model.proofs.OctreeLaws.{octree_at-inside}
use Rattle.octree_model.proofs.SameBagLaws.{same_facts, same_length}
use Rattle.octree_model.proofs.ShapeLaws.{few_inside}
use Rattle.octree_file.specs.Files.{ArePoints, IsFileOf, tree_file, head_bytes}
use Rattle.octree_file.specs.Order.{IsPoint, in_order}
use Rattle.octree_file.specs.Spelling.{point_bytes, spelling, u32_bytes}
use Rattle.octree_file.proofs.OrderLaws.{order_keeps, points_in_order}
use Rattle.octree_file.proofs.PointLaws.{points_inside}
use Rattle.octree_file.proofs.SameFileLaws.{same_spelling}
use Rattle.octree_file.proofs.SpellingLaws.{spelling-Leaf, spelling-Inner}
use Rattle.octree_file.proofs.VoxelLaws.{few_voxels}
use Rattle.octree_reader.specs.Heads.{head_cube, head_leaf}
use Rattle.octree_reader.specs.Opening.{IsFile}
use Rattle.octree_reader.proofs.FieldLaws.{number_back, whole_back}
use Rattle.octree_reader.specs.Nodes.{FileNode, LeafOf, InnerOf, IsNode, node_bytes, node_points}

-- the nodes of an octree in its file
pub nodes_at : ℕ → ℕ → CubeValue → List PointValue → List FileNode
nodes_at leaf zero c ps = LeafOf (in_order (inside c ps)) ∷ []
nodes_at leaf (suc depth) c ps =
    let q : List PointValue = inside c ps in
    cond (nat_le (length q) leaf) (LeafOf (in_order q) ∷ []) (InnerOf (voxels c q) ∷ flat_map (λ g. nodes_at leaf depth (child c g) q) (up_to 8))

-- ---- they spell the octree
leaf_spelled : (ps : List PointValue) → spelling (Leaf ps) ≡ flat_map node_bytes (LeafOf (in_order ps) ∷ [])
leaf_spelled ps =
    spelling-Leaf ps
    ∙ (λ i. 0 ∷ u32_bytes (same_length ps (in_order ps) (order_keeps ps) i) ++ flat_map point_bytes (in_order ps))
    ∙ sym (append-nil (node_bytes (LeafOf (in_order ps))))

trees_spelled : (T : ℕ → Tree) (N : ℕ → List FileNode) (gs : List ℕ) → ((g : ℕ) → spelling (T g) ≡ flat_map node_bytes (N g))
    → flat_map spelling (map T gs) ≡ flat_map node_bytes (flat_map N gs)
trees_spelled T N [] h = refl
trees_spelled T N (g ∷ gs) h = (λ i. h g i ++ trees_spelled T N gs h i) ∙ sym (flat_map-append node_bytes (N g) (flat_map N gs))

pub spelled : (leaf depth : ℕ) (c : CubeValue) (ps : List PointValue) → spelling (octree_at leaf depth c ps) ≡ flat_map node_bytes (nodes_at leaf depth c ps)
unfolding octree_at nodes_at
spelled leaf zero c ps = leaf_spelled (inside c ps)
spelled leaf (suc depth) c ps =
    let q : List PointValue = inside c ps in
    elim (cases_lt leaf (length q)) [
      | inl more ↦ rw (lt-leb _ _ more)
          (spelling-Inner record { count = length q; voxels = voxels c q; trees = map (λ g. octree_at leaf depth (child c g) q) (up_to 8) }
          ∙ ap (λ (l : List ℕ). node_bytes (InnerOf (voxels c q)) ++ l)
          (trees_spelled (λ g. octree_at leaf depth (child c g) q) (λ g. nodes_at leaf depth (child c g) q) (up_to 8) (λ g. spelled leaf depth (child c g) q)))
      | inr few ↦ rw (le-leb _ _ few) (leaf_spelled q)
    ]

-- ---- each is a node of a file
leaf_is : (ps : List PointValue) → All IsPoint ps → length ps < 2 ^ 32 → AllByRecursion IsNode (LeafOf (in_order ps) ∷ [])
leaf_is ps each few = (
  (
    All-from_recursion IsPoint (in_order ps) (points_in_order ps (recursion_from_All IsPoint ps each)),
    omega (arith, same_length ps (in_order ps) (order_keeps ps)),
  ),
  tt,
)

each_append : (ms ns : List FileNode) → AllByRecursion IsNode ms → AllByRecursion IsNode ns → AllByRecursion IsNode (ms ++ ns)
each_append [] ns hm hn = hn
each_append (m ∷ ms) ns hm hn = (hm.0, each_append ms ns hm.1 hn)

each_below : (N : ℕ → List FileNode) (gs : List ℕ) → ((g : ℕ) → AllByRecursion IsNode (N g)) → AllByRecursion IsNode (flat_map N gs)
each_below N [] h = tt
each_below N (g ∷ gs) h = each_append (N g) (flat_map N gs) (h g) (each_below N gs h)

pub are_nodes : (leaf depth : ℕ) (c : CubeValue) (ps : List PointValue) → All IsPoint ps → length ps < 2 ^ 32 → AllByRecursion IsNode (nodes_at leaf depth c ps)
unfolding nodes_at
are_nodes leaf zero c ps each few = leaf_is (inside c ps) (points_inside c ps each) (omega (arith, few_inside c ps))
are_nodes leaf (suc depth) c ps each few =
    let q : List PointValue = inside c ps in
    let small : length q < 2 ^ 32 = omega (arith, few_inside c ps) in
    elim (cases_lt leaf (length q)) [
      | inl more ↦ rw (lt-leb _ _ more) (
        omega (arith, few_voxels c q),
        each_below (λ g. nodes_at leaf depth (child c g) q) (up_to 8)
            (λ g. are_nodes leaf depth (child c g) q (points_inside c ps each) small),
      )
      | inr least ↦ rw (le-leb _ _ least) (leaf_is q (points_inside c ps each) small)
    ]

-- ---- their points are those of the cube
count_append : (t : PointValue → Bool) (xs ys : List PointValue) → count_by t (xs ++ ys) ≡ count_by t xs + count_by t ys
count_append t xs ys = sum_by-append (λ x. cond (t x) 1 0) xs ys

count_trees : (t : PointValue → Bool) (T : ℕ → Tree) (N : ℕ → List FileNode) (gs : List ℕ)
    → ((g : ℕ) → count_by t (flat_map node_points (N g)) ≡ count_by t (leaf_points (T g)))
    → count_by t (flat_map node_points (flat_map N gs)) ≡ count_by t (joined (map leaf_points (map T gs)))
count_trees t T N [] h = refl
count_trees t T N (g ∷ gs) h =
    let first : count_by t (flat_map node_points (N g)) ≡ count_by t (leaf_points (T g)) = h g in
    let rest : count_by t (flat_map node_points (flat_map N gs)) ≡ count_by t (joined (map leaf_points (map T gs))) = count_trees t T N gs h in
    ap (count_by t) (flat_map-append node_points (N g) (flat_map N gs))
    ∙ count_append t (flat_map node_points (N g)) (flat_map node_points (flat_map N gs))
    ∙ (λ i. first i + rest i)
    ∙ sym (count_append t (leaf_points (T g)) (joined (map leaf_points (map T gs))))

count_leaf : (t : PointValue → Bool) (ps : List PointValue) → count_by t (flat_map node_points (LeafOf (in_order ps) ∷ [])) ≡ count_by t (leaf_points (Leaf ps))
count_leaf t ps = ap (count_by t) (append-nil (in_order ps)) ∙ sym (order_keeps ps t) ∙ sym (ap (count_by t) (leaf_points-Leaf ps))

count_nodes : (t : PointValue → Bool) (leaf depth : ℕ) (c : CubeValue) (ps : List PointValue)
    → count_by t (flat_map node_points (nodes_at leaf depth c ps)) ≡ count_by t (leaf_points (octree_at leaf depth c ps))
unfolding octree_at nodes_at
count_nodes t leaf zero c ps = count_leaf t (inside c ps)
count_nodes t leaf (suc depth) c ps =
    let q : List PointValue = inside c ps in
    elim (cases_lt leaf (length q)) [
      | inl more ↦ rw (lt-leb _ _ more)
          (count_trees t (λ g. octree_at leaf depth (child c g) q) (λ g. nodes_at leaf depth (child c g) q) (up_to 8)
          (λ g. count_nodes t leaf depth (child c g) q)
          ∙ sym (ap (count_by t) (leaf_points-Inner _)))
      | inr few ↦ rw (le-leb _ _ few) (count_leaf t q)
    ]

pub points_there : (leaf depth : ℕ) (c : CubeValue) (ps : List PointValue) → depth ≤ c.bits
    → IsSameBag (flat_map node_points (nodes_at leaf depth c ps)) (inside c ps)
points_there leaf depth c ps l t = count_nodes t leaf depth c ps ∙ same_points t leaf depth c ps l

-- ---- the octree of the points that stand in a file
points_append : (ps qs : List PointValue) → AllByRecursion IsPoint ps → AllByRecursion IsPoint qs → AllByRecursion IsPoint (ps ++ qs)
points_append [] qs hp hq = hq
points_append (p ∷ ps) qs hp hq = (hp.0, points_append ps qs hp.1 hq)

are_points : (ns : List FileNode) → AllByRecursion IsNode ns → AllByRecursion IsPoint (flat_map node_points ns)
are_points [] h = tt
are_points (LeafOf ps ∷ ns) h = points_append ps (flat_map node_points ns) (recursion_from_All IsPoint ps h.0.0) (are_points ns h.1)
are_points (InnerOf vs ∷ ns) h = are_points ns h.1

-- where no element fails a test, each passes
each_passes : (t : PointValue → Bool) (ps : List PointValue) → count_by (λ p. not (t p)) ps ≡ 0 → AllByRecursion (λ p. IsTrue (t p)) ps
each_passes t [] none = tt
each_passes t (p ∷ ps) none = one (t p) refl (each_passes t ps) (omega (arith, count_append (λ q. not (t q)) (p ∷ []) ps))
  where
    one : (b : Bool) → t p ≡ b → (count_by (λ q. not (t q)) ps ≡ 0 → AllByRecursion (λ q. IsTrue (t q)) ps)
        → cond (not (t p)) 1 0 + count_by (λ q. not (t q)) ps ≡ 0 → AllByRecursion (λ q. IsTrue (t q)) (p ∷ ps)
    one true is rest e = (is, rest (omega arith))
    one false is rest e = absurd (omega (arith, ap {B = ℕ} (λ b. cond (not b) 1 0) is))

none_fails : (t : PointValue → Bool) (ps : List PointValue) → AllByRecursion (λ p. IsTrue (t p)) ps → count_by (λ p. not (t p)) ps ≡ 0
none_fails t [] h = refl
none_fails t (p ∷ ps) h = omega (arith, count_append (λ q. not (t q)) (p ∷ []) ps, none_fails t ps h.1, ap {B = ℕ} (λ b. cond (not b) 1 0) h.0)

-- what holds of the points that stand in the file of an octree
pub record IsFound (leaf : ℕ) (c : CubeValue) (ps found : List PointValue) : Type 0 where
  pub are : ArePoints found
  pub within : All (λ p. IsTrue (contains c p)) found
  pub file : tree_file leaf c (octree leaf c found) ≡ tree_file leaf c (octree leaf c ps)
  pub one : facts (octree leaf c found) ≡ facts (octree leaf c ps)

pub is_found : (leaf : ℕ) (c : CubeValue) (ps found : List PointValue) → ArePoints ps → found ≡ flat_map node_points (nodes_at leaf (c.bits - 7) c ps)
    → IsFound leaf c ps found
is_found leaf c ps found are is =
    let depth : ℕ = c.bits - 7 in
    let q : List PointValue = inside c ps in
    let nodes : List FileNode = nodes_at leaf depth c ps in
    let each : AllByRecursion IsPoint (flat_map node_points nodes) = are_points nodes (are_nodes leaf depth c ps are.each are.few) in
    let points : All IsPoint found = subst (All IsPoint) (sym is) (All-from_recursion IsPoint (flat_map node_points nodes) each) in
    let same : IsSameBag found q = λ t. ap (count_by t) is ∙ points_there leaf depth c ps (omega arith) t in
    let none : count_by (λ p. not (contains c p)) found ≡ 0 =
    same (λ p. not (contains c p)) ∙ none_fails (contains c) q (recursion_from_All (λ p. IsTrue (contains c p)) q (filter_passes (contains c) ps)) in
    record {
      are = record { each = points; few = omega (arith, same_length found q same, few_inside c ps, are.few) };
      within = All-from_recursion (λ p. IsTrue (contains c p)) found (each_passes (contains c) found none);
      file = ap (λ (l : List ℕ). head_bytes leaf c ++ l)
          (same_spelling leaf depth c found q points (points_inside c ps are.each) same ∙ ap spelling (octree_at-inside leaf depth c ps));
      one = ap (λ (f : FactsAt). f []) (same_facts leaf depth c found q same) ∙ ap facts (octree_at-inside leaf depth c ps);
    }

-- ---- a file
-- bytes that are a file have nodes behind their head, and the octree of the points of these has that file
pub record HasNodes (bytes : List ℕ) (c : CubeValue) (leaf : ℕ) : Type 0 where
  pub nodes : List FileNode
  pub each : All IsNode nodes
  pub at : drop 22 bytes ≡ flat_map node_bytes nodes
  pub are : (found : List PointValue) → found ≡ flat_map node_points nodes → ArePoints found
  pub within : (found : List PointValue) → found ≡ flat_map node_points nodes → All (λ p. IsTrue (contains c p)) found
  pub back : (found : List PointValue) → found ≡ flat_map node_points nodes → tree_file leaf c (octree leaf c found) ≡ bytes

pub has_nodes : (bytes : List ℕ) (c : CubeValue) (leaf : ℕ) (ps : List PointValue) → IsFileOf bytes c leaf ps → HasNodes bytes c leaf
has_nodes bytes c leaf ps file =
    let depth : ℕ = c.bits - 7 in
    record {
      nodes = nodes_at leaf depth c ps;
      each = All-from_recursion IsNode (nodes_at leaf depth c ps) (are_nodes leaf depth c ps file.points.each file.points.few);
      at = ap (drop 22) file.is ∙ spelled leaf depth c ps;
      are = λ found is. (is_found leaf c ps found file.points is).are;
      within = λ found is. (is_found leaf c ps found file.points is).within;
      back = λ found is. (is_found leaf c ps found file.points is).file ∙ sym file.is;
    }

-- a file names its cube and its leaf limit
pub cube_named : (bytes : List ℕ) (c : CubeValue) (leaf : ℕ) (ps : List PointValue) → IsFileOf bytes c leaf ps → head_cube bytes ≡ c
cube_named bytes c leaf ps file =
    ap head_cube file.is
    ∙ (λ i. record { ox = whole_back c.ox file.cube.x i; oy = whole_back c.oy file.cube.y i; oz = whole_back c.oz file.cube.z i; bits = c.bits })

pub leaf_named : (bytes : List ℕ) (c : CubeValue) (leaf : ℕ) (ps : List PointValue) → IsFileOf bytes c leaf ps → head_leaf bytes ≡ leaf
leaf_named bytes c leaf ps file = ap head_leaf file.is ∙ number_back leaf (omega (arith, file.limit.1))

-- what bytes that are a file have behind the head that was read
pub nodes_named : (bytes : List ℕ) (c : CubeValue) (leaf : ℕ) → c ≡ head_cube bytes → leaf ≡ head_leaf bytes → IsFile bytes → HasNodes bytes c leaf
nodes_named bytes c leaf ec el f =
    let cube : f.cube ≡ c = sym (ec ∙ cube_named bytes f.cube f.leaf f.points f.is) in
    let limit : f.leaf ≡ leaf = sym (el ∙ leaf_named bytes f.cube f.leaf f.points f.is) in
    subst (λ (k : CubeValue). HasNodes bytes k leaf) cube (subst (λ (n : ℕ). HasNodes bytes f.cube n) limit (has_nodes bytes f.cube f.leaf f.points f.is))

-- where so much was opened, every list of points with this file has the octree that was opened, but for the order in leaves
pub one_octree : (bytes : List ℕ) (c : CubeValue) (leaf : ℕ) (found ps : List PointValue) → IsFileOf bytes c leaf ps
    → ((nodes : List FileNode) → All IsNode nodes → drop 22 bytes ≡ flat_map node_bytes nodes → found ≡ flat_map node_points nodes)
    → facts (octree leaf c found) ≡ facts (octree leaf c ps)
one_octree bytes c leaf found ps file read =
    let depth : ℕ = c.bits - 7 in
    let nodes : List FileNode = nodes_at leaf depth c ps in
    let each : All IsNode nodes = All-from_recursion IsNode nodes (are_nodes leaf depth c ps file.points.each file.points.few) in
    (is_found leaf c ps found file.points (read nodes each (ap (drop 22) file.is ∙ spelled leaf depth c ps))).one
