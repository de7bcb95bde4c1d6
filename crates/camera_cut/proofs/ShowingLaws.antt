-- The items of an octree, node by node of its cut.
use Rattle.std.proofs.Common.{◌≡◌, ℕ, zero, suc, ◌+◌, ◌-◌, ◌<◌, ◌≤◌, inl, inr, Bool, true, false, cond, List, [], ◌∷◌, ◌++◌, map, length, refl, ap, ap₂, ◌∙◌, sym, arith}
use Rattle.std.specs.List.{filter, flat_map}
use Rattle.std.proofs.lemmas.Bool.{cases_lt, le-leb, lt-leb}
use Rattle.std.proofs.lemmas.List.{map-append}
use Rattle.cube_math.specs.Points.{PointValue}
use Rattle.cube_math.specs.Cubes.{CubeValue, child}
use Rattle.octree_model.specs.Numbers.{up_to}
use Rattle.octree_model.specs.Octree.{inside, octree, octree_at}
use Rattle.octree_model.specs.Outlines.{OutlineAt, children_outline, outline_at, outline}
use Rattle.octree_model.specs.Voxels.{voxels}
use Rattle.octree_model.specs.declared.outline.OutlineNode.{OutlineNode}
use Rattle.octree_model.specs.declared.tree.Tree.{Tree}
use Rattle.octree_model.proofs.OctreeLaws.{inside_twice, same_below}
use Rattle.octree_model.proofs.OutlineLaws.{outline_at-Leaf, outline_at-Inner}
use Rattle.picture_model.specs.Cameras.{CameraValue}
use Rattle.picture_model.specs.Cuts.{in_cut, cut}
use Rattle.picture_model.specs.Items.{ItemValue, Shown, point_item, voxel_item, children_shown, shown_at, items}
use Rattle.camera_cut.specs.Showings.{shown_by}
use Rattle.camera_cut.proofs.ItemLaws.{shown_at-Leaf, shown_at-Inner}

-- a node with the items by which it is shown
abbrev showing : List PointValue → OutlineNode → Shown
showing ps n = record { node = n; items = shown_by ps n }

-- in a tree each node is shown by these points
abbrev IsShownBy : List PointValue → Tree → CubeValue → Type 0
IsShownBy ps t c = (path : List ℕ) → shown_at t path c ≡ map (showing ps) (outline_at t path c)

abbrev AreShownBy : List PointValue → CubeValue → ℕ → List Tree → Type 0
AreShownBy ps c g [] = Unit {0}
AreShownBy ps c g (t ∷ ts) = IsShownBy ps t (child c g) × AreShownBy ps c (g + 1) ts

children : (ps : List PointValue) (path : List ℕ) (c : CubeValue) (g : ℕ) (ts : List Tree) → AreShownBy ps c g ts
    → children_shown path c g (map shown_at ts) ≡ map (showing ps) (children_outline path c g (map outline_at ts))
children ps path c g [] are = refl
children ps path c g (t ∷ ts) are =
    ap₂ (λ (xs ys : List Shown). xs ++ ys) (are.0 (path ++ g ∷ [])) (children ps path c (g + 1) ts are.1)
    ∙ sym (map-append (showing ps) (outline_at t (path ++ g ∷ []) (child c g)) (children_outline path c (g + 1) (map outline_at ts)))

shown_octree : (leaf depth : ℕ) (c : CubeValue) (ps qs : List PointValue) → depth ≤ c.bits → inside c ps ≡ inside c qs → IsShownBy qs (octree_at leaf depth c ps) c
unfolding octree_at
shown_octree leaf zero c ps qs d e path =
    shown_at-Leaf (inside c ps) path c ∙ ap (λ (xs : List PointValue). record { node = record { path = path; cube = c; inner = false }; items = map point_item xs } ∷ []) e
    ∙ sym (ap (λ (f : OutlineAt). map (showing qs) (f path c)) (outline_at-Leaf (inside c ps)))
shown_octree leaf (suc depth) c ps qs d e path =
    let q : List PointValue = inside c ps in
    elim (cases_lt leaf (length q)) [
      | inl more ↦ rw (lt-leb _ _ more) (
          let one : (g : ℕ) → g < 8 → IsShownBy qs (octree_at leaf depth (child c g) q) (child c g) = λ g l. shown_octree leaf depth (child c g) q qs (omega arith) (same_below c g q qs (omega arith) l (inside_twice c ps ∙ e)) in
          let ts : List Tree = map (λ g. octree_at leaf depth (child c g) q) (up_to 8) in
          let are : AreShownBy qs c 0 ts = (one 0 (omega arith), (one 1 (omega arith), (one 2 (omega arith), (one 3 (omega arith), (one 4 (omega arith), (one 5 (omega arith), (one 6 (omega arith), (one 7 (omega arith), tt)))))))) in
          shown_at-Inner _ path c ∙ ap₂ (λ (xs : List PointValue) (ss : List Shown). record { node = record { path = path; cube = c; inner = true }; items = map (voxel_item c) (voxels c xs) } ∷ ss) e (children qs path c 0 ts are)
          ∙ sym (ap (λ (f : OutlineAt). map (showing qs) (f path c)) (outline_at-Inner _)))
      | inr few ↦ rw (le-leb _ _ few) (
          shown_at-Leaf q path c ∙ ap (λ (xs : List PointValue). record { node = record { path = path; cube = c; inner = false }; items = map point_item xs } ∷ []) e
          ∙ sym (ap (λ (f : OutlineAt). map (showing qs) (f path c)) (outline_at-Leaf q)))
    ]

-- the items of nodes that pass a test, one node after the other
items_of_passing : (ps : List PointValue) (test : OutlineNode → Bool) (ns : List OutlineNode)
    → flat_map (λ (s : Shown). s.items) (filter (λ (s : Shown). test s.node) (map (showing ps) ns)) ≡ flat_map (shown_by ps) (filter test ns)
items_of_passing ps test [] = refl
items_of_passing ps test (n ∷ ns) = by (test n) (items_of_passing ps test ns)
  where
    by : (b : Bool) → flat_map (λ (s : Shown). s.items) (filter (λ (s : Shown). test s.node) (map (showing ps) ns)) ≡ flat_map (shown_by ps) (filter test ns)
        → flat_map (λ (s : Shown). s.items) (cond b (showing ps n ∷ filter (λ (s : Shown). test s.node) (map (showing ps) ns)) (filter (λ (s : Shown). test s.node) (map (showing ps) ns)))
        ≡ flat_map (shown_by ps) (cond b (n ∷ filter test ns) (filter test ns))
    by true e = ap (λ (xs : List ItemValue). shown_by ps n ++ xs) e
    by false e = e

pub items_of_cut : (camera : CameraValue) (leaf : ℕ) (c : CubeValue) (ps : List PointValue) → items camera (octree leaf c ps) c ≡ flat_map (shown_by ps) (cut camera (outline (octree leaf c ps) c))
items_of_cut camera leaf c ps =
    let t : Tree = octree leaf c ps in
    ap (λ (ss : List Shown). flat_map (λ (s : Shown). s.items) (filter (λ (s : Shown). in_cut camera (outline t c) s.node) ss)) (shown_octree leaf (c.bits - 7) c ps ps (omega arith) refl [])
    ∙ items_of_passing ps (in_cut camera (outline t c)) (outline t c)
