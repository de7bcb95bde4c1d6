-- Numbers of nodes.
use Rattle.std.proofs.Common.{◌≡◌, ℕ, zero, suc, ◌+◌, ◌*◌, ◌<◌, ◌≤◌, inl, inr, Bool, true, not, List, [], ◌∷◌, ◌++◌, map, length, filter, sum, ap, ◌∙◌, sym, refl, arith}
use Rattle.std.proofs.lemmas.Bool.{cases_lt, le-leb, lt-leb}
use Rattle.std.proofs.lemmas.List.Elements.{filter-append}
use Rattle.std.proofs.lemmas.List.{map-append, length-map, length-append}
use Rattle.std.proofs.lemmas.List.Sums.{sum_by-append, sum_by-cons}
use Rattle.std.proofs.lemmas.Option.{slice_get_read}
use Rattle.cube_math.specs.Points.{PointValue}
use Rattle.cube_math.specs.Cubes.{CubeValue, contains, child}
use Rattle.octree_model.specs.Counts.{nodes}
use Rattle.octree_model.specs.Numbers.{up_to}
use Rattle.octree_model.specs.Octree.{inside, octree_at}
use Rattle.octree_model.specs.declared.tree.Tree.{Tree}
use Rattle.octree_model.proofs.CountLaws.{nodes-Leaf, nodes-Inner}
use Rattle.octree_model.proofs.NumberLaws.{length-up_to}
use Rattle.leaf_counts.specs.declared.counts.Counts.{Counts, Leaf, Inner}
use Rattle.leaf_counts.specs.Nodes.{counted, node_total, is_inner_at}
use Rattle.leaf_counts.specs.Paths.{inner_paths, paths_below}
use Rattle.leaf_counts.specs.Plans.{new_inner}
use Rattle.leaf_counts.proofs.CountLaws as counts
use Rattle.leaf_counts.proofs.CountLaws.{counts_of, counted-Leaf, counted-Inner}
use Rattle.leaf_counts.proofs.NewLaws.{all_new_inner, new_inner-Inner, new_inner_child}
use Rattle.leaf_counts.proofs.NodeLaws.{total-Leaf, total-Inner}
use Rattle.leaf_counts.proofs.OverfullLaws.{child_counts, eight_children}
use Rattle.leaf_counts.proofs.PathLaws.{picked, filter-map, inner_paths-Leaf, inner_paths-Inner}
use Rattle.leaf_counts.proofs.SplitLaws.{paths_push}

-- ---- as many nodes as the octree has
same_totals : (T : ℕ → Tree) (gs : List ℕ) → ((g : ℕ) → node_total (counted (T g)) ≡ nodes (T g)) → map node_total (map counted (map T gs)) ≡ map nodes (map T gs)
same_totals T [] h = refl
same_totals T (g ∷ gs) h = λ i. h g i ∷ same_totals T gs h i

pub total_at : (leaf depth : ℕ) (c : CubeValue) (ps : List PointValue) → node_total (counted (octree_at leaf depth c ps)) ≡ nodes (octree_at leaf depth c ps)
unfolding octree_at
total_at leaf zero c ps = ap node_total (counted-Leaf (inside c ps)) ∙ total-Leaf _ ∙ sym (nodes-Leaf (inside c ps))
total_at leaf (suc depth) c ps =
    let q : List PointValue = inside c ps in
    elim (cases_lt leaf (length q)) [
      | inl more ↦ rw (lt-leb _ _ more) (ap node_total (counted-Inner _) ∙ total-Inner _ _ ∙ ap (λ (l : List ℕ). 1 + sum l) (same_totals (λ g. octree_at leaf depth (child c g) q) (up_to 8) (λ g. total_at leaf depth (child c g) q)) ∙ sym (nodes-Inner _))
      | inr few ↦ rw (le-leb _ _ few) (ap node_total (counted-Leaf q) ∙ total-Leaf _ ∙ sym (nodes-Leaf q))
    ]

-- ---- eight more for each new inner node
sum_push : (F : ℕ → ℕ) (n : ℕ) → sum (map F (up_to (suc n))) ≡ sum (map F (up_to n)) + F n
sum_push F n =
    ap sum (map-append F (up_to n) (n ∷ [])) ∙ sum_by-append (λ m. m) (map F (up_to n)) (F n ∷ []) ∙ ap (λ k. sum (map F (up_to n)) + k) (alone (F n))
  where
    alone : (k : ℕ) → sum (k ∷ []) ≡ k
    alone k = omega (arith, sum_by-cons (λ m. m) k [])

sums : (F G H : ℕ → ℕ) (n : ℕ) → ((g : ℕ) → g < n → F g ≡ G g + 8 * H g) → sum (map F (up_to n)) ≡ sum (map G (up_to n)) + 8 * sum (map H (up_to n))
sums F G H zero h = refl
sums F G H (suc n) h =
    let rest : sum (map F (up_to n)) ≡ sum (map G (up_to n)) + 8 * sum (map H (up_to n)) = sums F G H n (λ g l. h g (omega arith)) in
    let last : F n ≡ G n + 8 * H n = h n (omega arith) in
    omega (arith, sum_push F n, sum_push G n, sum_push H n, rest, last)

-- so many paths pass below the first children
so_many_picked : (test : List ℕ → Bool) (T : ℕ → Counts) (n : ℕ) → length (picked test inner_paths 0 (map T (up_to n))) ≡ sum (map (λ g. length (filter (λ path. test (g ∷ path)) (inner_paths (T g)))) (up_to n))
so_many_picked test T zero = refl
so_many_picked test T (suc n) =
    let done : List Counts = map T (up_to n) in
    let last : List (List ℕ) = filter (λ path. test (n ∷ path)) (inner_paths (T n)) in
    let paths : paths_below 0 (map inner_paths (map T (up_to (suc n)))) ≡ paths_below 0 (map inner_paths done) ++ map (λ path. n ∷ path) (inner_paths (T n)) =
    ap (λ (l : List Counts). paths_below 0 (map inner_paths l)) (map-append T (up_to n) (n ∷ [])) ∙ ap (paths_below 0) (map-append inner_paths done (T n ∷ [])) ∙ paths_push 0 (map inner_paths done) (inner_paths (T n))
    ∙ ap (λ k. paths_below 0 (map inner_paths done) ++ map (λ path. k ∷ path) (inner_paths (T n))) (from_zero (length (map inner_paths done)) ∙ length-map done inner_paths ∙ length-map (up_to n) T ∙ length-up_to n) in
    let parts : picked test inner_paths 0 (map T (up_to (suc n))) ≡ picked test inner_paths 0 done ++ map (λ path. n ∷ path) last =
    ap (filter test) paths ∙ filter-append test (paths_below 0 (map inner_paths done)) (map (λ path. n ∷ path) (inner_paths (T n)))
    ∙ ap (λ (l : List (List ℕ)). picked test inner_paths 0 done ++ l) (filter-map (λ path. n ∷ path) test (inner_paths (T n))) in
    ap length parts ∙ length-append (picked test inner_paths 0 done) (map (λ path. n ∷ path) last)
    ∙ (λ i. so_many_picked test T n i + length-map last (λ path. n ∷ path) i)
    ∙ sym (sum_push (λ g. length (filter (λ path. test (g ∷ path)) (inner_paths (T g)))) n)
  where
    from_zero : (k : ℕ) → 0 + k ≡ k
    from_zero k = omega arith

one_each : (T : ℕ → Counts) (n : ℕ) → sum (map (λ g. 1) (up_to n)) ≡ n
one_each T zero = refl
one_each T (suc n) = omega (arith, sum_push (λ g. 1) n, one_each T n)

-- nodes below the eight children, each counted as one and the eight of each inner node
totals_of : (T : ℕ → Counts) (n : ℕ) → map node_total (map T (up_to n)) ≡ map (λ g. node_total (T g)) (up_to n)
totals_of T n = over_all (up_to n)
  where
    over_all : (gs : List ℕ) → map node_total (map T gs) ≡ map (λ g. node_total (T g)) gs
    over_all [] = refl
    over_all (g ∷ gs) = ap (λ (l : List ℕ). node_total (T g) ∷ l) (over_all gs)

leaf_by_inner : (t : Counts) (n : ℕ) → t ≡ Leaf n → node_total t ≡ 1 + 8 * length (inner_paths t)
leaf_by_inner t n is = omega (arith, ap node_total is, total-Leaf n, ap length (ap inner_paths is ∙ inner_paths-Leaf n))

all_true : {X : Type 0} (xs : List X) → filter (λ x. true) xs ≡ xs
all_true [] = refl
all_true (x ∷ xs) = ap (λ l. x ∷ l) (all_true xs)

total_by_inner : (depth leaf : ℕ) (cube : CubeValue) (ps : List PointValue) → cube.bits ≤ depth → node_total (counts_of leaf cube ps) ≡ 1 + 8 * length (inner_paths (counts_of leaf cube ps))
total_by_inner zero leaf cube ps d = leaf_by_inner _ _ (counts.is_leaf leaf cube ps (inr (omega arith)))
total_by_inner (suc depth) leaf cube ps d =
    elim (cases_lt leaf (length (inside cube ps))) [
      | inl more ↦ elim (cases_lt 7 cube.bits) [
        | inl high ↦
            let n : ℕ = length (inside cube ps) in
            let T : ℕ → Counts = λ g. counts_of leaf (child cube g) ps in
            let inner : counts_of leaf cube ps ≡ Inner n (map T (up_to 8)) = counts.is_inner leaf cube ps more high in
            let below : sum (map (λ g. node_total (T g)) (up_to 8)) ≡ sum (map (λ g. 1) (up_to 8)) + 8 * sum (map (λ g. length (filter (λ path. true) (inner_paths (T g)))) (up_to 8)) =
            sums (λ g. node_total (T g)) (λ g. 1) (λ g. length (filter (λ path. true) (inner_paths (T g)))) 8 (λ g l.
            total_by_inner depth leaf (child cube g) ps (omega arith) ∙ ap (λ (l : List (List ℕ)). 1 + 8 * length l) (sym (all_true (inner_paths (T g))))) in
            let paths : length (paths_below 0 (map inner_paths (map T (up_to 8)))) ≡ sum (map (λ g. length (filter (λ path. true) (inner_paths (T g)))) (up_to 8)) =
            ap length (sym (all_true (paths_below 0 (map inner_paths (map T (up_to 8)))))) ∙ so_many_picked (λ path. true) T 8 in
            let named : length (inner_paths (counts_of leaf cube ps)) ≡ suc (length (paths_below 0 (map inner_paths (map T (up_to 8))))) = ap length (ap inner_paths inner ∙ inner_paths-Inner n (map T (up_to 8))) in
            let all : node_total (counts_of leaf cube ps) ≡ 1 + sum (map (λ g. node_total (T g)) (up_to 8)) =
            ap node_total inner ∙ total-Inner n (map T (up_to 8)) ∙ ap (λ (l : List ℕ). 1 + sum l) (totals_of T 8) in
            omega (arith, below, paths, named, all, one_each T 8)
        | inr low ↦ leaf_by_inner _ _ (counts.is_leaf leaf cube ps (inr low))
      ]
      | inr few ↦ leaf_by_inner _ _ (counts.is_leaf leaf cube ps (inl few))
    ]

-- a batch adds eight nodes for each inner node that it makes
from_leaf : (leaf : ℕ) (cube : CubeValue) (ps qs : List PointValue) (t : Counts) (n : ℕ) → t ≡ Leaf n → node_total (counts_of leaf cube qs) ≡ node_total t + 8 * length (new_inner t (counts_of leaf cube qs))
from_leaf leaf cube ps qs t n is =
    omega (arith, total_by_inner cube.bits leaf cube qs (omega arith), ap node_total is, total-Leaf n, ap length (all_new_inner t (counts_of leaf cube qs) n is))

total_more : (depth leaf : ℕ) (cube : CubeValue) (ps qs : List PointValue) → cube.bits ≤ depth
    → node_total (counts_of leaf cube (ps ++ qs)) ≡ node_total (counts_of leaf cube ps) + 8 * length (new_inner (counts_of leaf cube ps) (counts_of leaf cube (ps ++ qs)))
total_more zero leaf cube ps qs d = from_leaf leaf cube ps (ps ++ qs) (counts_of leaf cube ps) _ (counts.is_leaf leaf cube ps (inr (omega arith)))
total_more (suc depth) leaf cube ps qs d =
    elim (cases_lt leaf (length (inside cube ps))) [
      | inl more ↦ elim (cases_lt 7 cube.bits) [
        | inl high ↦
            let n : ℕ = length (inside cube ps) in
            let m : ℕ = length (inside cube (ps ++ qs)) in
            let longer : n ≤ m = omega (arith, ap length (filter-append (contains cube) ps qs), length-append (inside cube ps) (inside cube qs)) in
            let S : ℕ → Counts = λ g. counts_of leaf (child cube g) ps in
            let T : ℕ → Counts = λ g. counts_of leaf (child cube g) (ps ++ qs) in
            let t : Counts = counts_of leaf cube ps in
            let before : t ≡ Inner n (map S (up_to 8)) = counts.is_inner leaf cube ps more high in
            let after : counts_of leaf cube (ps ++ qs) ≡ Inner m (map T (up_to 8)) = counts.is_inner leaf cube (ps ++ qs) (omega arith) high in
            let new : ℕ → ℕ = λ g. length (filter (λ path. not (is_inner_at t (g ∷ path))) (inner_paths (T g))) in
            let below : sum (map (λ g. node_total (T g)) (up_to 8)) ≡ sum (map (λ g. node_total (S g)) (up_to 8)) + 8 * sum (map new (up_to 8)) =
            sums (λ g. node_total (T g)) (λ g. node_total (S g)) new 8 (λ g l.
            total_more depth leaf (child cube g) ps qs (omega arith)
            ∙ ap (λ (paths : List (List ℕ)). node_total (S g) + 8 * length paths)
            (sym (new_inner_child t n g (map S (up_to 8)) (S g) (T g) before (slice_get_read (map S (up_to 8)) 8 g (S g) (sym (eight_children leaf cube ps)) l (sym (child_counts leaf cube ps g (S g) l)))))) in
            let paths : length (new_inner t (counts_of leaf cube (ps ++ qs))) ≡ sum (map new (up_to 8)) =
            ap length (new_inner-Inner t (counts_of leaf cube (ps ++ qs)) n m (map S (up_to 8)) (map T (up_to 8)) before after) ∙ so_many_picked (λ path. not (is_inner_at t path)) T 8 in
            let old : node_total t ≡ 1 + sum (map (λ g. node_total (S g)) (up_to 8)) = ap node_total before ∙ total-Inner n (map S (up_to 8)) ∙ ap (λ (l : List ℕ). 1 + sum l) (totals_of S 8) in
            let all : node_total (counts_of leaf cube (ps ++ qs)) ≡ 1 + sum (map (λ g. node_total (T g)) (up_to 8)) =
            ap node_total after ∙ total-Inner m (map T (up_to 8)) ∙ ap (λ (l : List ℕ). 1 + sum l) (totals_of T 8) in
            omega (arith, below, paths, old, all)
        | inr low ↦ from_leaf leaf cube ps (ps ++ qs) (counts_of leaf cube ps) _ (counts.is_leaf leaf cube ps (inr low))
      ]
      | inr few ↦ from_leaf leaf cube ps (ps ++ qs) (counts_of leaf cube ps) _ (counts.is_leaf leaf cube ps (inl few))
    ]

pub total_after : (leaf : ℕ) (cube : CubeValue) (ps qs : List PointValue)
    → node_total (counts_of leaf cube (ps ++ qs)) ≡ node_total (counts_of leaf cube ps) + 8 * length (new_inner (counts_of leaf cube ps) (counts_of leaf cube (ps ++ qs)))
total_after leaf cube ps qs = total_more cube.bits leaf cube ps qs (omega arith)
