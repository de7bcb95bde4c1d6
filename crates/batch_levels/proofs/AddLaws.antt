-- Levels before and after a batch.
use Rattle.std.proofs.Common.{◌≡◌, ℕ, zero, suc, ◌+◌, ◌<◌, ◌≤◌, ◌^◌, inl, inr, List, [], ◌∷◌, ◌++◌, map, length, Some, ap, ◌∙◌, sym, refl, subst, arith, IsTrue, slice_get, length-append}
use Rattle.std.specs.List.{All}
use Rattle.std.specs.Prelude.{Result, Ok, Err, IfErr, IsErrAnd}
use Rattle.std.proofs.lemmas.Bool.{cases_lt}
use Rattle.std.proofs.lemmas.List.Elements.{All-append, All-cons, All-nil, All-map, All-filter, All-weaker}
use Rattle.std.proofs.lemmas.Option.{slice_get_within, get_or_from_slice_get}
use Rattle.cube_math.specs.Points.{PointValue}
use Rattle.cube_math.specs.Cubes.{CubeValue, child}
use Rattle.octree_model.specs.Bags.{IsSameBag}
use Rattle.octree_model.specs.Numbers.{up_to}
use Rattle.octree_model.specs.Octree.{inside, octree}
use Rattle.leaf_counts.specs.declared.counts.Counts.{Counts}
use Rattle.leaf_counts.specs.declared.counts.Counts.TheVariants as counts
use Rattle.leaf_counts.specs.declared.plan.PlanRefusal.{PlanRefusal}
use Rattle.leaf_counts.specs.declared.plan.Spill.{Spill}
use Rattle.leaf_counts.specs.Nodes.{NodesAt, counted, is_leaf, is_leaf_at, cube_at}
use Rattle.leaf_counts.specs.Overfull.{is_overfull, overfull}
use Rattle.leaf_counts.specs.Paths.{leaf_paths, paths_below}
use Rattle.leaf_counts.specs.Plans.{IsPublished}
use Rattle.leaf_counts.specs.Skeletons.{SkeletonValue, skeleton_of}
use Rattle.leaf_counts.proofs.CountLaws as count_laws
use Rattle.leaf_counts.proofs.CountLaws.{counts_of, counted_is}
use Rattle.leaf_counts.proofs.NodeLaws.{node_at-Leaf}
use Rattle.leaf_counts.proofs.OverfullLaws.{child_counts, eight_children}
use Rattle.leaf_counts.proofs.PathLaws.{leaf_paths-Leaf, leaf_paths-Inner}
use Rattle.leaf_counts.proofs.WayLaws.{node_below}
use Rattle.batch_levels.specs.declared.level.Level.{Level}
use Rattle.batch_levels.specs.declared.level.Level.TheVariants.{Leaf}
use Rattle.batch_levels.specs.Growing.{IsOverLeaf}
use Rattle.batch_levels.specs.Levels.{LevelsValue, AreAllOf, level_of, levels_of}
use Rattle.batch_levels.proofs.LevelLaws as levels

-- ---- the paths of leaves lead to leaves
all_below : (P : List ℕ → Type 0) (g : ℕ) (ts : List Counts) → ((k : ℕ) (t : Counts) → slice_get ts k ≡ Some t → All (λ path. P ((g + k) ∷ path)) (leaf_paths t)) → All P (paths_below g (map leaf_paths ts))
all_below P g [] h = All-nil P
all_below P g (t ∷ ts) h =
    All-append P (map (λ path. g ∷ path) (leaf_paths t)) (paths_below (g + 1) (map leaf_paths ts))
    (All-map P (λ path. g ∷ path) (leaf_paths t) (subst (λ k. All (λ path. P (k ∷ path)) (leaf_paths t)) (at_zero g) (h 0 t refl)))
    (all_below P (g + 1) ts (λ k u at. subst (λ n. All (λ path. P (n ∷ path)) (leaf_paths u)) (behind g k) (h (suc k) u at)))
  where
    at_zero : (g : ℕ) → g + 0 ≡ g
    at_zero g = omega arith

    behind : (g k : ℕ) → g + suc k ≡ g + 1 + k
    behind g k = omega arith

leaf_itself : (t : Counts) (n : ℕ) → t ≡ counts.Leaf n → All (λ path. IsTrue (is_leaf_at t path)) (leaf_paths t)
leaf_itself t n is =
    let P : List ℕ → Type 0 = λ path. IsTrue (is_leaf_at t path) in
    let here : P [] = ap (λ (u : Counts). is_leaf_at u []) is ∙ ap (λ (f : NodesAt). is_leaf (f [])) (node_at-Leaf n) in
    subst (λ (l : List (List ℕ)). All P l) (sym (ap leaf_paths is ∙ leaf_paths-Leaf n)) (All-cons P [] [] here (All-nil P))

leaves_at : (depth leaf : ℕ) (c : CubeValue) (ps : List PointValue) (t : Counts) → c.bits ≤ depth → t ≡ counts_of leaf c ps → All (λ path. IsTrue (is_leaf_at t path)) (leaf_paths t)
leaves_at zero leaf c ps t d is = leaf_itself t _ (is ∙ count_laws.is_leaf leaf c ps (inr (omega arith)))
leaves_at (suc depth) leaf c ps t d is =
    elim (cases_lt leaf (length (inside c ps))) [
      | inl more ↦ elim (cases_lt 7 c.bits) [
        | inl high ↦
            let P : List ℕ → Type 0 = λ path. IsTrue (is_leaf_at t path) in
            let ts : List Counts = map (λ g. counts_of leaf (child c g) ps) (up_to 8) in
            let inner : t ≡ counts.Inner (length (inside c ps)) ts = is ∙ count_laws.is_inner leaf c ps more high in
            subst (λ (l : List (List ℕ)). All P l) (sym (ap leaf_paths inner ∙ leaf_paths-Inner (length (inside c ps)) ts))
            (all_below P 0 ts (λ k u at.
            let low : k < 8 = omega (arith, slice_get_within ts k u at, eight_children leaf c ps) in
            let same : u ≡ counts_of leaf (child c k) ps = sym (get_or_from_slice_get ts k u u at) ∙ child_counts leaf c ps k u low in
            let from_zero : 0 + k ≡ k = omega arith in
            All-weaker (λ path. IsTrue (is_leaf_at u path)) (λ path. P ((0 + k) ∷ path))
            (λ path ends. ap (λ n. is_leaf_at t (n ∷ path)) from_zero ∙ ap is_leaf (node_below t (length (inside c ps)) k ts path u inner at) ∙ ends) (leaf_paths u)
            (leaves_at depth leaf (child c k) ps u (omega arith) same)))
        | inr low ↦ leaf_itself t _ (is ∙ count_laws.is_leaf leaf c ps (inr low))
      ]
      | inr few ↦ leaf_itself t _ (is ∙ count_laws.is_leaf leaf c ps (inl few))
    ]

-- ---- what is known of levels
skeleton_is : (l : LevelsValue) (ps : List PointValue) → AreAllOf l ps → l.skeleton ≡ skeleton_of l.skeleton.leaf l.skeleton.cube ps
skeleton_is l ps all = ap (λ (v : LevelsValue). v.skeleton) all.is

pub root_is : (l : LevelsValue) (ps : List PointValue) → AreAllOf l ps → l.root ≡ level_of l.skeleton.leaf l.skeleton.cube ps
root_is l ps all = ap (λ (v : LevelsValue). v.root) all.is

total_is : (l : LevelsValue) (ps : List PointValue) → AreAllOf l ps → l.total ≡ length ps
total_is l ps all = ap (λ (v : LevelsValue). v.total) all.is

-- the over-full leaves are leaves
pub over_leaves : (l : LevelsValue) (ps batch : List PointValue) (paths : List (List ℕ)) → AreAllOf l ps → paths ≡ overfull l.skeleton.leaf l.skeleton.cube l.skeleton.counts batch
    → All (λ path. IsTrue (is_leaf_at (counted (octree l.skeleton.leaf l.skeleton.cube ps)) path)) paths
over_leaves l ps batch paths all is =
    let s : SkeletonValue = l.skeleton in
    let t : Counts = counted (octree s.leaf s.cube ps) in
    let P : List ℕ → Type 0 = λ path. IsTrue (is_leaf_at t path) in
    let same : s.counts ≡ t = ap (λ (v : SkeletonValue). v.counts) (skeleton_is l ps all) in
    subst (λ (ls : List (List ℕ)). All P ls) (sym (is ∙ ap (λ (u : Counts). overfull s.leaf s.cube u batch) same))
    (All-filter (is_overfull s.leaf s.cube t batch) P (leaf_paths t) (leaves_at s.cube.bits s.leaf s.cube ps t (omega arith) (counted_is s.leaf s.cube ps)))

pub over_leaves_below : (l : LevelsValue) (ps batch : List PointValue) (paths : List (List ℕ)) → AreAllOf l ps → paths ≡ overfull l.skeleton.leaf l.skeleton.cube l.skeleton.counts batch → All (λ path. IsOverLeaf l.root path) paths
over_leaves_below l ps batch paths all is =
    All-weaker (λ path. IsTrue (is_leaf_at (counted (octree l.skeleton.leaf l.skeleton.cube ps)) path)) (λ path. IsOverLeaf l.root path)
    (λ path ends. record { leaf = l.skeleton.leaf; cube = l.skeleton.cube; points = ps; is = root_is l ps all; ends = ends }) paths (over_leaves l ps batch paths all is)

-- the spills are what planning needs
pub published : (l : LevelsValue) (ps batch : List PointValue) (paths : List (List ℕ)) (spills lent : List Spill) → AreAllOf l ps → l.total + length batch < 2 ^ 32 → paths ≡ overfull l.skeleton.leaf l.skeleton.cube l.skeleton.counts batch
    → map (λ spill. spill.path) spills ≡ paths → All (λ spill. IsSameBag spill.points.items (inside (cube_at l.skeleton.cube spill.path) ps)) spills → lent ≡ spills → IsPublished l.skeleton batch lent ps
published l ps batch paths spills lent all few is named bags same = record {
  is = skeleton_is l ps all;
  few = omega (arith, total_is l ps all);
  paths = ap (map (λ (spill : Spill). spill.path)) same ∙ named ∙ is;
  bags = subst (λ (ss : List Spill). All (λ spill. IsSameBag spill.points.items (inside (cube_at l.skeleton.cube spill.path) ps)) ss) (sym same) bags;
}

-- ---- the levels after a batch
pub levels_after : (l : LevelsValue) (ps batch points more : List PointValue) (leaf total : ℕ) (cube : CubeValue) (skeleton : SkeletonValue) (root : Level) → AreAllOf l ps → leaf ≡ l.skeleton.leaf → cube ≡ l.skeleton.cube → points ≡ batch → more ≡ batch
    → skeleton ≡ skeleton_of l.skeleton.leaf l.skeleton.cube (ps ++ batch) → total ≡ l.total + length more → root ≡ level_of leaf cube (ps ++ points)
    → record { skeleton = skeleton; total = total; root = root } ≡ levels_of l.skeleton.leaf l.skeleton.cube (ps ++ batch)
levels_after l ps batch points more leaf total cube skeleton root all limit box same also planned counted grown =
    let many : total ≡ length (ps ++ batch) = omega (arith, counted, total_is l ps all, length-append ps batch, ap length also) in
    let whole : root ≡ level_of l.skeleton.leaf l.skeleton.cube (ps ++ batch) = grown ∙ (λ i. level_of (limit i) (box i) (ps ++ same i)) in
    (λ i. record { skeleton = planned i; total = many i; root = whole i })

pub all_after : (l : LevelsValue) (leaf : ℕ) (cube : CubeValue) (ps : List PointValue) → l ≡ levels_of leaf cube ps → length ps < 2 ^ 32 → AreAllOf l ps
all_after l leaf cube ps is few = record { few = few; is = is ∙ ap (λ (v : LevelsValue). levels_of v.skeleton.leaf v.skeleton.cube ps) (sym is) }

pub still_few : (l : LevelsValue) (ps batch : List PointValue) → AreAllOf l ps → l.total + length batch < 2 ^ 32 → length (ps ++ batch) < 2 ^ 32
still_few l ps batch all few = omega (arith, total_is l ps all, length-append ps batch)

-- without points the root is a leaf
pub no_levels : (leaf : ℕ) (cube : CubeValue) (skeleton : SkeletonValue) (kept : List PointValue) → skeleton ≡ skeleton_of leaf cube [] → kept ≡ [] → record { skeleton = skeleton; total = 0; root = Leaf kept } ≡ levels_of leaf cube []
no_levels leaf cube skeleton kept is none =
    let root : Leaf kept ≡ level_of leaf cube [] = ap Leaf none ∙ sym (levels.is_leaf leaf cube [] (inl (omega arith))) in
    (λ i. record { skeleton = is i; total = 0; root = root i })

-- a refusal that is passed on
pub refused_too : {T : Type 0} (r : Result T PlanRefusal) (refusal : PlanRefusal) (Q : PlanRefusal → Type 0) → IsErrAnd r (λ made. made ≡ refusal) → Q refusal → IfErr r Q
refused_too (Ok x) refusal Q h q = absurd h
refused_too (Err made) refusal Q h q = subst Q (sym h) q
