-- Lists of points that are the same bag have one file.
use Rattle.std.proofs.Common.{◌≡◌, ℕ, zero, suc, ◌+◌, ◌<◌, ◌≤◌, inl, inr, List, [], ◌∷◌, ◌++◌, map, flat_map, length, ap, ◌∙◌, sym, refl, arith}
use Rattle.std.specs.List.{All}
use Rattle.std.proofs.lemmas.Bool.{cases_lt, lt-leb, le-leb}
use Rattle.cube_math.specs.Points.{PointValue}
use Rattle.cube_math.specs.Cubes.{CubeValue, contains, child}
use Rattle.octree_model.specs.Bags.{IsSameBag}
use Rattle.octree_model.specs.Numbers.{up_to}
use Rattle.octree_model.specs.Octree.{inside, octree_at}
use Rattle.octree_model.specs.Voxels.{VoxelValue, voxels}
use Rattle.octree_model.specs.declared.tree.Tree.{Tree}
use Rattle.octree_model.specs.declared.tree.Tree.TheVariants.{Leaf, Inner}
use Rattle.octree_model.proofs.SameBagLaws.{same_filter, same_length, same_voxels}
use Rattle.octree_file.specs.Order.{IsPoint, in_order}
use Rattle.octree_file.specs.Spelling.{point_bytes, spelling, u32_bytes, voxel_bytes}
use Rattle.octree_file.proofs.OrderLaws.{same_in_order}
use Rattle.octree_file.proofs.PointLaws.{points_inside}
use Rattle.octree_file.proofs.SpellingLaws.{spelling-Leaf, spelling-Inner}

same_leaf : (ps qs : List PointValue) → All IsPoint ps → All IsPoint qs → IsSameBag ps qs → spelling (Leaf ps) ≡ spelling (Leaf qs)
same_leaf ps qs hp hq same =
    spelling-Leaf ps
    ∙ (λ i. 0 ∷ u32_bytes (same_length ps qs same i) ++ flat_map point_bytes (same_in_order ps qs hp hq same i))
    ∙ sym (spelling-Leaf qs)

same_trees : (T S : ℕ → Tree) (gs : List ℕ) → ((g : ℕ) → spelling (T g) ≡ spelling (S g)) → flat_map spelling (map T gs) ≡ flat_map spelling (map S gs)
same_trees T S [] h = refl
same_trees T S (g ∷ gs) h = λ i. h g i ++ same_trees T S gs h i

same_inner : (n m : ℕ) (vs ws : List VoxelValue) (T S : ℕ → Tree) → vs ≡ ws → ((g : ℕ) → spelling (T g) ≡ spelling (S g))
    → spelling (Inner record { count = n; voxels = vs; trees = map T (up_to 8) }) ≡ spelling (Inner record { count = m; voxels = ws; trees = map S (up_to 8) })
same_inner n m vs ws T S voxels below =
    spelling-Inner record { count = n; voxels = vs; trees = map T (up_to 8) }
    ∙ (λ i. (1 ∷ u32_bytes (length (voxels i)) ++ flat_map voxel_bytes (voxels i)) ++ same_trees T S (up_to 8) below i)
    ∙ sym (spelling-Inner record { count = m; voxels = ws; trees = map S (up_to 8) })

pub same_spelling : (leaf depth : ℕ) (c : CubeValue) (ps qs : List PointValue) → All IsPoint ps → All IsPoint qs → IsSameBag ps qs
    → spelling (octree_at leaf depth c ps) ≡ spelling (octree_at leaf depth c qs)
unfolding octree_at
same_spelling leaf zero c ps qs hp hq same =
    same_leaf (inside c ps) (inside c qs) (points_inside c ps hp) (points_inside c qs hq) (same_filter (contains c) ps qs same)
same_spelling leaf (suc depth) c ps qs hp hq same =
    let a : List PointValue = inside c ps in
    let b : List PointValue = inside c qs in
    let ha : All IsPoint a = points_inside c ps hp in
    let hb : All IsPoint b = points_inside c qs hq in
    let here : IsSameBag a b = same_filter (contains c) ps qs same in
    let long : length a ≡ length b = same_length a b here in
    elim (cases_lt leaf (length a)) [
      | inl more ↦
          let more' : leaf < length b = omega arith in
          rw (lt-leb _ _ more, lt-leb _ _ more')
          (same_inner (length a) (length b) (voxels c a) (voxels c b) (λ g. octree_at leaf depth (child c g) a) (λ g. octree_at leaf depth (child c g) b)
          (same_voxels c a b here)
          (λ g. same_spelling leaf depth (child c g) a b ha hb here))
      | inr few ↦
          let few' : length b ≤ leaf = omega arith in
          rw (le-leb _ _ few, le-leb _ _ few') (same_leaf a b ha hb here)
    ]
