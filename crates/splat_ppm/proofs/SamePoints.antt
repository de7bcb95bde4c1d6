-- Lists with the same points, each as often, have the same picture.
use Rattle.std.proofs.Common.{◌≡◌, ℕ, zero, suc, ◌+◌, ◌-◌, ◌<◌, ◌≤◌, Bool, true, false, cond, List, [], ◌∷◌, ◌++◌, map, length, count_by, inl, inr, ap, ◌∙◌, sym, refl, arith, if◌then◌else◌}
use Rattle.std.proofs.lemmas.Bool.{cases_lt, le-leb, lt-leb}
use Rattle.std.proofs.lemmas.List.Sums.{sum_by-append, sum_by-cons}
use Rattle.cube_math.specs.Points.{PointValue}
use Rattle.cube_math.specs.Cubes.{CubeValue, contains, child}
use Rattle.octree_model.specs.Bags.{IsSameBag}
use Rattle.octree_model.specs.Numbers.{up_to}
use Rattle.octree_model.specs.Octree.{inside, octree, octree_at}
use Rattle.octree_model.specs.Voxels.{VoxelValue, voxels}
use Rattle.octree_model.specs.declared.tree.Tree.{Tree}
use Rattle.octree_model.specs.declared.tree.Tree.TheVariants.{Leaf, Inner}
use Rattle.octree_model.proofs.SameBagLaws.{same_filter, same_length, same_voxels}
use Rattle.picture_model.specs.Cameras.{CameraValue, refines}
use Rattle.picture_model.specs.Items.{ItemValue, IsSameItems, items, point_item, voxel_item}
use Rattle.camera_cut.specs.Descents.{children_seen, seen_in}
use Rattle.camera_cut.proofs.ItemLaws.{octree_seen, seen_in-Leaf, seen_in-Inner}

count-append : (test : ItemValue → Bool) (xs ys : List ItemValue) → count_by test (xs ++ ys) ≡ count_by test xs + count_by test ys
count-append test xs ys = sum_by-append (λ x. cond (test x) 1 0) xs ys

-- a test of items is one of points
count-items : (test : ItemValue → Bool) (ps : List PointValue) → count_by test (map point_item ps) ≡ count_by (λ p. test (point_item p)) ps
count-items test [] = refl
count-items test (p ∷ ps) =
    sum_by-cons (λ i. cond (test i) 1 0) (point_item p) (map point_item ps) ∙ ap (λ n. cond (test (point_item p)) 1 0 + n) (count-items test ps)
    ∙ sym (sum_by-cons (λ q. cond (test (point_item q)) 1 0) p ps)

same_leaf : (camera : CameraValue) (ps qs : List PointValue) (d : CubeValue) → IsSameBag ps qs → IsSameItems (seen_in camera (Leaf ps) d) (seen_in camera (Leaf qs) d)
same_leaf camera ps qs d same test =
    ap (count_by test) (seen_in-Leaf camera ps d) ∙ count-items test ps ∙ same (λ p. test (point_item p)) ∙ sym (count-items test qs) ∙ sym (ap (count_by test) (seen_in-Leaf camera qs d))

-- children of which each is seen alike
same_children : (camera : CameraValue) (T S : ℕ → Tree) → ((g : ℕ) (d : CubeValue) → IsSameItems (seen_in camera (T g) d) (seen_in camera (S g) d)) → (gs : List ℕ) (d : CubeValue) (g : ℕ)
    → IsSameItems (children_seen d g (map (seen_in camera) (map T gs))) (children_seen d g (map (seen_in camera) (map S gs)))
same_children camera T S same [] d g test = refl
same_children camera T S same (k ∷ ks) d g test =
    count-append test (seen_in camera (T k) (child d g)) (children_seen d (g + 1) (map (seen_in camera) (map T ks)))
    ∙ (λ j. same k (child d g) test j + same_children camera T S same ks d (g + 1) test j)
    ∙ sym (count-append test (seen_in camera (S k) (child d g)) (children_seen d (g + 1) (map (seen_in camera) (map S ks))))

by_refines : (b : Bool) (xs ys zs ws : List ItemValue) → IsSameItems xs ys → zs ≡ ws → IsSameItems (if b then xs else zs) (if b then ys else ws)
by_refines true xs ys zs ws same e test = same test
by_refines false xs ys zs ws same e test = ap (count_by test) e

same_inner : (camera : CameraValue) (n m : ℕ) (vs ws : List VoxelValue) (T S : ℕ → Tree) (d : CubeValue) → vs ≡ ws → ((g : ℕ) (e : CubeValue) → IsSameItems (seen_in camera (T g) e) (seen_in camera (S g) e))
    → IsSameItems (seen_in camera (Inner record { count = n; voxels = vs; trees = map T (up_to 8) }) d) (seen_in camera (Inner record { count = m; voxels = ws; trees = map S (up_to 8) }) d)
same_inner camera n m vs ws T S d voxels below test =
    ap (count_by test) (seen_in-Inner camera record { count = n; voxels = vs; trees = map T (up_to 8) } d)
    ∙ by_refines (refines camera d) _ _ (map (voxel_item d) vs) (map (voxel_item d) ws) (same_children camera T S below (up_to 8) d 0) (ap (map (voxel_item d)) voxels) test
    ∙ sym (ap (count_by test) (seen_in-Inner camera record { count = m; voxels = ws; trees = map S (up_to 8) } d))

same_seen : (camera : CameraValue) (leaf depth : ℕ) (c d : CubeValue) (ps qs : List PointValue) → IsSameBag ps qs → IsSameItems (seen_in camera (octree_at leaf depth c ps) d) (seen_in camera (octree_at leaf depth c qs) d)
unfolding octree_at
same_seen camera leaf zero c d ps qs same = same_leaf camera (inside c ps) (inside c qs) d (same_filter (contains c) ps qs same)
same_seen camera leaf (suc depth) c d ps qs same =
    let a : List PointValue = inside c ps in
    let b : List PointValue = inside c qs in
    let here : IsSameBag a b = same_filter (contains c) ps qs same in
    let long : length a ≡ length b = same_length a b here in
    elim (cases_lt leaf (length a)) [
      | inl more ↦
          let more' : leaf < length b = omega arith in
          rw (lt-leb _ _ more, lt-leb _ _ more')
          (same_inner camera (length a) (length b) (voxels c a) (voxels c b) (λ g. octree_at leaf depth (child c g) a) (λ g. octree_at leaf depth (child c g) b) d (same_voxels c a b here)
          (λ g e. same_seen camera leaf depth (child c g) e a b here))
      | inr few ↦
          let few' : length b ≤ leaf = omega arith in
          rw (le-leb _ _ few, le-leb _ _ few') (same_leaf camera a b d here)
    ]

-- the items of the cuts of their octrees are the same
pub same_items : (camera : CameraValue) (leaf : ℕ) (c : CubeValue) (ps qs : List PointValue) → IsSameBag ps qs → IsSameItems (items camera (octree leaf c ps) c) (items camera (octree leaf c qs) c)
same_items camera leaf c ps qs same test =
    ap (count_by test) (octree_seen camera leaf c ps) ∙ same_seen camera leaf (c.bits - 7) c c ps qs same test ∙ sym (ap (count_by test) (octree_seen camera leaf c qs))
