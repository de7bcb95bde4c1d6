-- What a camera sees on its way down an octree are the items of the cut.
use Rattle.std.proofs.Common.{◌≡◌, ℕ, zero, suc, ◌+◌, ◌-◌, Bool, true, false, ◌||◌, cond, List, [], ◌∷◌, ◌++◌, map, length, inl, inr, refl, ap, ◌∙◌, sym, subst, if◌then◌else◌}
use Rattle.std.specs.List.{AllByRecursion, filter, list_any, flat_map}
use Rattle.std.proofs.lemmas.Bool.{cases_lt, le-leb, lt-leb}
use Rattle.std.proofs.lemmas.List.{append-nil}
use Rattle.std.proofs.lemmas.Grind.{flat_map-append}
use Rattle.std.proofs.lemmas.List.Elements.{filter-append}
use Rattle.cube_math.specs.Points.{PointValue}
use Rattle.cube_math.specs.Cubes.{CubeValue, child}
use Rattle.picture_model.specs.Cameras.{CameraValue, refines}
use Rattle.picture_model.specs.Cuts.{begins, opens, hides}
use Rattle.picture_model.specs.Items.{ItemValue, Shown, ShownAt, point_item, voxel_item, children_shown, tree_shown, node_shown, shown_at, items}
use Rattle.octree_model.specs.Numbers.{up_to}
use Rattle.octree_model.specs.Octree.{inside, octree, octree_at}
use Rattle.octree_model.specs.Outlines.{OutlineAt, children_outline, outline_at}
use Rattle.octree_model.specs.Shapes.{IsOctreeIn}
use Rattle.octree_model.specs.Voxels.{voxels}
use Rattle.octree_model.specs.declared.outline.OutlineNode.{OutlineNode}
use Rattle.octree_model.specs.declared.tree.Tree.{Tree}
use Rattle.octree_model.specs.declared.tree.Tree.TheOpen.{Tree-F}
use Rattle.octree_model.specs.declared.tree.Tree.TheFolds.{fold-roll-Tree, fold-roll-InnerNode}
use Rattle.octree_model.specs.declared.tree.Tree.TheVariants.{Leaf, Inner, rolls-Leaf, rolls-Inner}
use Rattle.octree_model.specs.declared.tree.InnerNode.{InnerNode}
use Rattle.camera_cut.specs.Descents.{SeenIn, children_seen, tree_seen, node_seen, seen_in}
use Rattle.camera_cut.proofs.Lists.{each-append, each_weaker, filter_none}
use Rattle.camera_cut.proofs.PathLaws.{beyond, begins_self, begins-beyond, beyond-less, beyond-begins}
use Rattle.camera_cut.proofs.CutLaws.{kept, Part, children_beyond, later_hide_none, earlier_hide_none, or_none, kept_left, kept_right, closed_kept, closed_hides, open_kept, open_hides_none, leaf_part, inner_part, outline_at-Leaf, outline_at-Inner, inner_starts}

-- the layers of the two folds
pub shown_at-Leaf : (ps : List PointValue) (path : List ℕ) (c : CubeValue) → shown_at (Leaf ps) path c ≡ record { node = record { path = path; cube = c; inner = false }; items = map point_item ps } ∷ []
shown_at-Leaf ps path c = ap (λ (t : Tree). shown_at t path c) (sym (rolls-Leaf ps)) ∙ ap (λ (f : ShownAt). f path c) (fold-roll-Tree ShownAt ShownAt tree_shown node_shown (Tree-F.Leaf ps))

pub shown_at-Inner : (n : InnerNode) (path : List ℕ) (c : CubeValue)
    → shown_at (Inner n) path c ≡ record { node = record { path = path; cube = c; inner = true }; items = map (voxel_item c) n.voxels } ∷ children_shown path c 0 (map shown_at n.trees)
shown_at-Inner n path c =
    ap (λ (t : Tree). shown_at t path c) (sym (rolls-Inner n)) ∙ ap (λ (f : ShownAt). f path c) (fold-roll-Tree ShownAt ShownAt tree_shown node_shown (Tree-F.Inner n)
    ∙ fold-roll-InnerNode ShownAt ShownAt tree_shown node_shown record { count = n.count; voxels = n.voxels; trees = n.trees })

pub seen_in-Leaf : (camera : CameraValue) (ps : List PointValue) (c : CubeValue) → seen_in camera (Leaf ps) c ≡ map point_item ps
seen_in-Leaf camera ps c = ap (λ (t : Tree). seen_in camera t c) (sym (rolls-Leaf ps)) ∙ ap (λ (f : SeenIn). f c) (fold-roll-Tree SeenIn SeenIn tree_seen (node_seen camera) (Tree-F.Leaf ps))

pub seen_in-Inner : (camera : CameraValue) (n : InnerNode) (c : CubeValue)
    → seen_in camera (Inner n) c ≡ (if refines camera c then children_seen c 0 (map (seen_in camera) n.trees) else map (voxel_item c) n.voxels)
seen_in-Inner camera n c =
    ap (λ (t : Tree). seen_in camera t c) (sym (rolls-Inner n)) ∙ ap (λ (f : SeenIn). f c) (fold-roll-Tree SeenIn SeenIn tree_seen (node_seen camera) (Tree-F.Inner n)
    ∙ fold-roll-InnerNode SeenIn SeenIn tree_seen (node_seen camera) record { count = n.count; voxels = n.voxels; trees = n.trees })

-- the items of the shown nodes that pass a test of their nodes
abbrev passed : (OutlineNode → Bool) → List Shown → List ItemValue
passed test ss = flat_map (λ (s : Shown). s.items) (filter (λ (s : Shown). test s.node) ss)

passed-append : (test : OutlineNode → Bool) (ss ts : List Shown) → passed test (ss ++ ts) ≡ passed test ss ++ passed test ts
passed-append test ss ts =
    ap (flat_map (λ (s : Shown). s.items)) (filter-append (λ (s : Shown). test s.node) ss ts)
    ∙ flat_map-append (λ (s : Shown). s.items) (filter (λ (s : Shown). test s.node) ss) (filter (λ (s : Shown). test s.node) ts)

-- a tree whose items in the cut are those seen on the way down
record IsSeen (camera : CameraValue) (t : Tree) : Type 0 where
  part : Part camera (outline_at t)
  starts : (path : List ℕ) (c : CubeValue) → AllByRecursion (λ (s : Shown). begins path s.node.path ≡ true) (shown_at t path c)
  seen : (path : List ℕ) (c : CubeValue) (hidden : OutlineNode → Bool) → ((n : OutlineNode) → begins path n.path ≡ true → hidden n ≡ false)
      → passed (kept camera hidden (outline_at t path c)) (shown_at t path c) ≡ seen_in camera t c

parts : (camera : CameraValue) (ts : List Tree) → AllByRecursion (IsSeen camera) ts → AllByRecursion (Part camera) (map outline_at ts)
parts camera [] h = tt
parts camera (t ∷ ts) h = (h.0.part, parts camera ts h.1)

shown_beyond : (camera : CameraValue) (ts : List Tree) → AllByRecursion (IsSeen camera) ts → (path : List ℕ) (c : CubeValue) (g : ℕ)
    → AllByRecursion (λ (s : Shown). beyond path g s.node.path ≡ true) (children_shown path c g (map shown_at ts))
shown_beyond camera [] h path c g = tt
shown_beyond camera (t ∷ ts) h path c g =
    let first : IsSeen camera t = h.0 in
    each-append (λ (s : Shown). beyond path g s.node.path ≡ true) (shown_at t (path ++ g ∷ []) (child c g)) (children_shown path c (g + 1) (map shown_at ts))
    (each_weaker (λ (s : Shown). begins (path ++ g ∷ []) s.node.path ≡ true) (λ (s : Shown). beyond path g s.node.path ≡ true) (λ s. begins-beyond path g s.node.path) (shown_at t (path ++ g ∷ []) (child c g)) (first.starts (path ++ g ∷ []) (child c g)))
    (each_weaker (λ (s : Shown). beyond path (g + 1) s.node.path ≡ true) (λ (s : Shown). beyond path g s.node.path ≡ true) (λ s. beyond-less path g s.node.path) (children_shown path c (g + 1) (map shown_at ts)) (shown_beyond camera ts h.1 path c (g + 1)))

children_are_seen : (camera : CameraValue) (ts : List Tree) → AllByRecursion (IsSeen camera) ts → (path : List ℕ) (c : CubeValue) (g : ℕ) (hidden : OutlineNode → Bool)
    → ((n : OutlineNode) → beyond path g n.path ≡ true → hidden n ≡ false)
    → passed (kept camera hidden (children_outline path c g (map outline_at ts))) (children_shown path c g (map shown_at ts)) ≡ children_seen c g (map (seen_in camera) ts)
children_are_seen camera [] h path c g hidden none = refl
children_are_seen camera (t ∷ ts) h path c g hidden none =
    let first : IsSeen camera t = h.0 in
    let here : List ℕ = path ++ g ∷ [] in
    let xs : List OutlineNode = outline_at t here (child c g) in
    let ys : List OutlineNode = children_outline path c (g + 1) (map outline_at ts) in
    let ss : List Shown = shown_at t here (child c g) in
    let us : List Shown = children_shown path c (g + 1) (map shown_at ts) in
    let below : AllByRecursion (λ (n : OutlineNode). begins here n.path ≡ true) xs = first.part.starts here (child c g) in
    let past : AllByRecursion (λ (n : OutlineNode). beyond path (g + 1) n.path ≡ true) ys = children_beyond camera (map outline_at ts) (parts camera ts h.1) path c (g + 1) in
    let by_ys : OutlineNode → Bool = λ n. hidden n || list_any (hides camera n) ys in
    let by_xs : OutlineNode → Bool = λ n. hidden n || list_any (hides camera n) xs in
    let left : passed (kept camera hidden (xs ++ ys)) ss ≡ seen_in camera t (child c g) =
    (λ i. passed (λ n. kept_left camera hidden xs ys n i) ss) ∙ first.seen here (child c g) by_ys (λ n b.
    or_none (hidden n) (list_any (hides camera n) ys) (none n (begins-beyond path g n.path b)) (later_hide_none camera path g n ys b past)) in
    let right : passed (kept camera hidden (xs ++ ys)) us ≡ children_seen c (g + 1) (map (seen_in camera) ts) =
    (λ i. passed (λ n. kept_right camera hidden xs ys n i) us) ∙ children_are_seen camera ts h.1 path c (g + 1) by_xs (λ n b.
    or_none (hidden n) (list_any (hides camera n) xs) (none n (beyond-less path g n.path b)) (earlier_hide_none camera path g n xs b below)) in
    passed-append (kept camera hidden (xs ++ ys)) ss us ∙ (λ i. left i ++ right i)

leaf_is_seen : (camera : CameraValue) (ps : List PointValue) → IsSeen camera (Leaf ps)
leaf_is_seen camera ps = record {
  part = subst (Part camera) (sym (outline_at-Leaf ps)) (leaf_part camera);
  starts = λ path c. subst (AllByRecursion (λ (s : Shown). begins path s.node.path ≡ true)) (sym (shown_at-Leaf ps path c)) (begins_self path, tt);
  seen = λ path c hidden none.
      let r : OutlineNode = record { path = path; cube = c; inner = false } in
      let outline : outline_at (Leaf ps) path c ≡ r ∷ [] = ap (λ (f : OutlineAt). f path c) (outline_at-Leaf ps) in
      let below : AllByRecursion (λ (n : OutlineNode). begins r.path n.path ≡ true) (r ∷ []) = (begins_self path, tt) in
      let root : kept camera hidden (r ∷ []) r ≡ true = closed_kept camera hidden r [] refl (none r (begins_self path)) below in
      (λ i. passed (kept camera hidden (outline i)) (shown_at-Leaf ps path c i))
      ∙ ap (λ b. flat_map (λ (s : Shown). s.items) (cond b (record { node = r; items = map point_item ps } ∷ []) [])) root
      ∙ append-nil (map point_item ps) ∙ sym (seen_in-Leaf camera ps c);
}

-- an inner node, by whether it opens
inner_seen : (camera : CameraValue) (r : OutlineNode) (ch : List OutlineNode) (own : List ItemValue) (ss : List Shown) (below : List ItemValue) (hidden : OutlineNode → Bool) (b : Bool)
    → opens camera r ≡ b → hidden r ≡ false → AllByRecursion (λ n. begins r.path n.path ≡ true) (r ∷ ch) → AllByRecursion (λ (s : Shown). beyond r.path 0 s.node.path ≡ true) ss
    → passed (kept camera hidden ch) ss ≡ below → passed (kept camera hidden (r ∷ ch)) (record { node = r; items = own } ∷ ss) ≡ (if b then below else own)
inner_seen camera r ch own ss below hidden true e none starts past h =
    ap (λ b. flat_map (λ (s : Shown). s.items) (cond b (record { node = r; items = own } ∷ filter (λ (s : Shown). kept camera hidden (r ∷ ch) s.node) ss) (filter (λ (s : Shown). kept camera hidden (r ∷ ch) s.node) ss))) (open_kept camera hidden r ch e)
    ∙ (λ i. passed (λ n. open_hides_none camera hidden r ch e n i) ss) ∙ h
inner_seen camera r ch own ss below hidden false e none starts past h =
    let others : filter (λ (s : Shown). kept camera hidden (r ∷ ch) s.node) ss ≡ [] = filter_none (λ (s : Shown). kept camera hidden (r ∷ ch) s.node) ss (
    each_weaker (λ (s : Shown). beyond r.path 0 s.node.path ≡ true) (λ (s : Shown). kept camera hidden (r ∷ ch) s.node ≡ false) (λ s. closed_hides camera hidden r ch e s.node) ss past) in
    ap (λ b. flat_map (λ (s : Shown). s.items) (cond b (record { node = r; items = own } ∷ filter (λ (s : Shown). kept camera hidden (r ∷ ch) s.node) ss) (filter (λ (s : Shown). kept camera hidden (r ∷ ch) s.node) ss))) (closed_kept camera hidden r ch e none starts)
    ∙ ap (λ (l : List Shown). own ++ flat_map (λ (s : Shown). s.items) l) others ∙ append-nil own

inner_is_seen : (camera : CameraValue) (n : InnerNode) → AllByRecursion (IsSeen camera) n.trees → IsSeen camera (Inner n)
inner_is_seen camera n h = record {
  part = subst (Part camera) (sym (outline_at-Inner n)) (inner_part camera (map outline_at n.trees) (parts camera n.trees h));
  starts = λ path c. subst (AllByRecursion (λ (s : Shown). begins path s.node.path ≡ true)) (sym (shown_at-Inner n path c)) (
    begins_self path,
    each_weaker (λ (s : Shown). beyond path 0 s.node.path ≡ true) (λ (s : Shown). begins path s.node.path ≡ true) (λ s. beyond-begins path 0 s.node.path) (children_shown path c 0 (map shown_at n.trees)) (shown_beyond camera n.trees h path c 0),
  );
  seen = λ path c hidden none.
      let r : OutlineNode = record { path = path; cube = c; inner = true } in
      let ch : List OutlineNode = children_outline path c 0 (map outline_at n.trees) in
      let ss : List Shown = children_shown path c 0 (map shown_at n.trees) in
      let own : List ItemValue = map (voxel_item c) n.voxels in
      let below : List ItemValue = children_seen c 0 (map (seen_in camera) n.trees) in
      let outline : outline_at (Inner n) path c ≡ r ∷ ch = ap (λ (f : OutlineAt). f path c) (outline_at-Inner n) in
      let children : passed (kept camera hidden ch) ss ≡ below = children_are_seen camera n.trees h path c 0 hidden (λ m b. none m (beyond-begins path 0 m.path b)) in
      (λ i. passed (kept camera hidden (outline i)) (shown_at-Inner n path c i))
      ∙ inner_seen camera r ch own ss below hidden (opens camera r) refl (none r (begins_self path)) (inner_starts camera (map outline_at n.trees) (parts camera n.trees h) path c) (shown_beyond camera n.trees h path c 0) children
      ∙ sym (seen_in-Inner camera n c);
}

trees_are_seen : (camera : CameraValue) (T : ℕ → Tree) → ((g : ℕ) → IsSeen camera (T g)) → (gs : List ℕ) → AllByRecursion (IsSeen camera) (map T gs)
trees_are_seen camera T h [] = tt
trees_are_seen camera T h (g ∷ gs) = (h g, trees_are_seen camera T h gs)

tree_is_seen : (camera : CameraValue) (leaf depth : ℕ) (c : CubeValue) (ps : List PointValue) → IsSeen camera (octree_at leaf depth c ps)
unfolding octree_at
tree_is_seen camera leaf zero c ps = leaf_is_seen camera (inside c ps)
tree_is_seen camera leaf (suc depth) c ps =
    let q : List PointValue = inside c ps in
    elim (cases_lt leaf (length q)) [
      | inl more ↦
          let node : InnerNode = record { count = length q; voxels = voxels c q; trees = map (λ g. octree_at leaf depth (child c g) q) (up_to 8) } in
          rw (lt-leb _ _ more) (inner_is_seen camera node (trees_are_seen camera (λ g. octree_at leaf depth (child c g) q) (λ g. tree_is_seen camera leaf depth (child c g) q) (up_to 8)))
      | inr few ↦ rw (le-leb _ _ few) (leaf_is_seen camera q)
    ]

-- what is seen on the way down an octree are the items of its cut
pub octree_seen : (camera : CameraValue) (leaf : ℕ) (c : CubeValue) (ps : List PointValue) → items camera (octree leaf c ps) c ≡ seen_in camera (octree leaf c ps) c
octree_seen camera leaf c ps =
    let whole : IsSeen camera (octree leaf c ps) = tree_is_seen camera leaf (c.bits - 7) c ps in
    whole.seen [] c (λ n. false) (λ n b. refl)

pub items_seen : (camera : CameraValue) (t : Tree) (c : CubeValue) → IsOctreeIn c t → items camera t c ≡ seen_in camera t c
items_seen camera t c o = subst (λ (u : Tree). items camera u c ≡ seen_in camera u c) (sym o.is) (octree_seen camera o.leaf c o.points)
