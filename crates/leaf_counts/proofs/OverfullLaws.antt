-- Leaves that a batch makes over-full.
use Rattle.std.proofs.Common.{◌≡◌, ◌⊎◌, ℕ, zero, suc, ◌+◌, ◌<◌, ◌≤◌, inl, inr, Bool, true, ◌&&◌, cond, List, [], ◌∷◌, ◌++◌, map, length, filter, drop, get_or, Some, nat_lt, nat_eq, ap, ◌∙◌, sym, refl, arith, slice_get, Option, append_assoc}
use Rattle.std.specs.Prelude.{option_map, unwrap_or}
use Rattle.std.proofs.lemmas.Bool.{cases_lt, le-ltb, and_right, eqb-true}
use Rattle.std.proofs.lemmas.List.{length-map, get_or-map}
use Rattle.std.proofs.lemmas.Option.{slice_get_within, get_or_from_slice_get}
use Rattle.cube_math.specs.Points.{PointValue}
use Rattle.cube_math.specs.Cubes.{CubeValue, child}
use Rattle.octree_model.specs.Numbers.{up_to}
use Rattle.octree_model.specs.Octree.{inside}
use Rattle.octree_model.proofs.NumberLaws.{at_up_to, length-up_to}
use Rattle.leaf_counts.specs.declared.counts.Counts.{Counts, Leaf, Inner}
use Rattle.leaf_counts.specs.Nodes.{NodeValue, cube_at}
use Rattle.leaf_counts.specs.Overfull.{IsCountedBy, is_overfull, overfull}
use Rattle.leaf_counts.specs.Paths.{leaf_paths}
use Rattle.leaf_counts.proofs.CountLaws.{counts_of, counted_is, child_inside, is_leaf, is_inner, IsInnerOf, inner_of}
use Rattle.leaf_counts.proofs.PathLaws.{leaf_paths-Leaf, leaf_paths-Inner, picked, same_test, none_below, next_picked, further}
use Rattle.leaf_counts.proofs.WayLaws.{node_below, count_here}

-- what is needed of an inner node
pub record IsInnerBy (leaf : ℕ) (cube : CubeValue) (ts : List Counts) : Type 0 where
  pub splits : 7 < cube.bits
  pub eight : length ts ≡ 8
  pub below : (g : ℕ) (t : Counts) → g < 8 → t ≡ get_or ts g t → IsCountedBy leaf (child cube g) t

-- a child of an octree's counts
pub child_counts : (leaf : ℕ) (cube : CubeValue) (ps : List PointValue) (g : ℕ) (d : Counts) → g < 8
    → get_or (map (λ k. counts_of leaf (child cube k) ps) (up_to 8)) g d ≡ counts_of leaf (child cube g) ps
child_counts leaf cube ps g d low = at_up_to (λ k. counts_of leaf (child cube k) ps) 8 g d low

pub eight_children : (leaf : ℕ) (cube : CubeValue) (ps : List PointValue) → length (map (λ g. counts_of leaf (child cube g) ps) (up_to 8)) ≡ 8
eight_children leaf cube ps = length-map (up_to 8) (λ g. counts_of leaf (child cube g) ps) ∙ length-up_to 8

pub inner_by : (leaf : ℕ) (cube : CubeValue) (t : Counts) (n : ℕ) (ts : List Counts) → IsCountedBy leaf cube t → t ≡ Inner n ts → IsInnerBy leaf cube ts
inner_by leaf cube t n ts counted is =
    let inner : IsInnerOf leaf cube counted.points n ts = inner_of leaf cube counted.points n ts (sym is ∙ counted.is ∙ counted_is leaf cube counted.points) in
    record {
      splits = inner.splits;
      eight = ap length inner.below ∙ eight_children leaf cube counted.points;
      below = λ g u low at. record {
        points = counted.points;
        is = at ∙ ap (λ (us : List Counts). get_or us g u) inner.below ∙ child_counts leaf cube counted.points g u low ∙ sym (counted_is leaf (child cube g) counted.points);
      };
    }

-- the test of a leaf further down is that of the child
pub overfull_child : (leaf : ℕ) (cube : CubeValue) (t : Counts) (n : ℕ) (ts : List Counts) (batch : List PointValue) (g : ℕ) (u : Counts) → t ≡ Inner n ts → slice_get ts g ≡ Some u
    → filter (λ path. is_overfull leaf cube t batch (g ∷ path)) (leaf_paths u) ≡ overfull leaf (child cube g) u batch
overfull_child leaf cube t n ts batch g u is at =
    same_test (λ path. is_overfull leaf cube t batch (g ∷ path)) (is_overfull leaf (child cube g) u batch) (leaf_paths u) (λ path.
    ap (λ (o : Option NodeValue). nat_lt 7 (cube_at (child cube g) path).bits && nat_lt leaf (unwrap_or (option_map (λ (v : NodeValue). v.count) o) 0 + length (inside (cube_at (child cube g) path) batch)))
    (node_below t n g ts path u is at))

pub overfull-Leaf : (leaf : ℕ) (cube : CubeValue) (t : Counts) (n : ℕ) (batch : List PointValue) → t ≡ Leaf n
    → overfull leaf cube t batch ≡ cond (nat_lt 7 cube.bits && nat_lt leaf (n + length (inside cube batch))) ([] ∷ []) []
overfull-Leaf leaf cube t n batch is =
    ap (filter (is_overfull leaf cube t batch)) (ap leaf_paths is ∙ leaf_paths-Leaf n)
    ∙ ap (λ (o : Option ℕ). cond (nat_lt 7 cube.bits && nat_lt leaf (unwrap_or o 0 + length (inside cube batch))) ([] ∷ []) []) (count_here t n [] (inl is))

pub overfull-Inner : (leaf : ℕ) (cube : CubeValue) (t : Counts) (n : ℕ) (ts : List Counts) (batch : List PointValue) → t ≡ Inner n ts
    → overfull leaf cube t batch ≡ picked (is_overfull leaf cube t batch) leaf_paths 0 ts
overfull-Inner leaf cube t n ts batch is = ap (filter (is_overfull leaf cube t batch)) (ap leaf_paths is ∙ leaf_paths-Inner n ts)

-- no point makes no leaf over-full
leaf_stays : (leaf : ℕ) (cube : CubeValue) (ps batch : List PointValue) (t : Counts) → (length (inside cube ps) ≤ leaf) ⊎ (cube.bits ≤ 7) → t ≡ counts_of leaf cube ps → inside cube batch ≡ [] → overfull leaf cube t batch ≡ []
leaf_stays leaf cube ps batch t stays is none =
    overfull-Leaf leaf cube t (length (inside cube ps)) batch (is ∙ is_leaf leaf cube ps stays)
    ∙ ap (λ b. cond b ([] ∷ []) []) (elim stays [
      | inl few ↦ and_right (nat_lt 7 cube.bits) _ (le-ltb leaf (length (inside cube ps) + length (inside cube batch)) (omega (arith, ap length none)))
      | inr low ↦ ap (λ b. b && nat_lt leaf (length (inside cube ps) + length (inside cube batch))) (le-ltb 7 cube.bits low)
    ])

none_overfull : (depth leaf : ℕ) (cube : CubeValue) (ps batch : List PointValue) (t : Counts) → cube.bits ≤ depth → t ≡ counts_of leaf cube ps → inside cube batch ≡ [] → overfull leaf cube t batch ≡ []
none_overfull zero leaf cube ps batch t d is none = leaf_stays leaf cube ps batch t (inr (omega arith)) is none
none_overfull (suc depth) leaf cube ps batch t d is none =
    elim (cases_lt leaf (length (inside cube ps))) [
      | inl more ↦ elim (cases_lt 7 cube.bits) [
        | inl high ↦
            let ts : List Counts = map (λ g. counts_of leaf (child cube g) ps) (up_to 8) in
            let inner : t ≡ Inner (length (inside cube ps)) ts = is ∙ is_inner leaf cube ps more high in
            overfull-Inner leaf cube t _ ts batch inner
            ∙ none_below (is_overfull leaf cube t batch) leaf_paths ts (λ k u at.
            let low : k < 8 = omega (arith, slice_get_within ts k u at, eight_children leaf cube ps) in
            let same : u ≡ counts_of leaf (child cube k) ps = sym (get_or_from_slice_get ts k u u at) ∙ child_counts leaf cube ps k u low in
            overfull_child leaf cube t _ ts batch k u inner at
            ∙ none_overfull depth leaf (child cube k) ps batch u (omega arith) same (sym (child_inside cube k batch (omega arith) low) ∙ ap (inside (child cube k)) none))
        | inr low ↦ leaf_stays leaf cube ps batch t (inr low) is none
      ]
      | inr few ↦ leaf_stays leaf cube ps batch t (inl few) is none
    ]

pub not_overfull : (leaf : ℕ) (cube : CubeValue) (t : Counts) (batch : List PointValue) → IsCountedBy leaf cube t → inside cube batch ≡ [] → overfull leaf cube t batch ≡ []
not_overfull leaf cube t batch counted none = none_overfull cube.bits leaf cube counted.points batch t (omega arith) (counted.is ∙ counted_is leaf cube counted.points) none

-- the points of a batch in a child are those of its part in the cube
pub child_part : (cube cube' : CubeValue) (g : ℕ) (batch points : List PointValue) → 0 < cube.bits → g < 8 → cube' ≡ child cube g → inside cube batch ≡ points → inside cube' batch ≡ inside (child cube g) points
child_part cube cube' g batch points s l is part = ap (λ (c : CubeValue). inside c batch) is ∙ sym (child_inside cube g batch s l) ∙ ap (inside (child cube g)) part

-- the paths below one child more
pub one_child_more : (leaf : ℕ) (cube cube' : CubeValue) (t : Counts) (n : ℕ) (ts : List Counts) (batch : List PointValue) (path path' : List ℕ) (g : ℕ) (u : Counts) (paths paths' all : List (List ℕ))
    → t ≡ Inner n ts → slice_get ts g ≡ Some u → path' ≡ path ++ g ∷ [] → cube' ≡ child cube g
    → paths' ≡ paths ++ map (λ steps. path' ++ steps) (overfull leaf cube' u batch)
    → paths ++ map (λ steps. path ++ steps) (picked (is_overfull leaf cube t batch) leaf_paths g (drop g ts)) ≡ all
    → paths' ++ map (λ steps. path ++ steps) (picked (is_overfull leaf cube t batch) leaf_paths (g + 1) (drop (g + 1) ts)) ≡ all
one_child_more leaf cube cube' t n ts batch path path' g u paths paths' all is at longer smaller pushed before =
    let test : List ℕ → Bool = is_overfull leaf cube t batch in
    let rest : List (List ℕ) = picked test leaf_paths (g + 1) (drop (g + 1) ts) in
    let here : List (List ℕ) = overfull leaf (child cube g) u batch in
    ap (λ (l : List (List ℕ)). l ++ map (λ steps. path ++ steps) rest)
    (pushed ∙ ap (λ (p : List ℕ). paths ++ map (λ steps. p ++ steps) (overfull leaf cube' u batch)) longer ∙ ap (λ (c : CubeValue). paths ++ map (λ steps. (path ++ g ∷ []) ++ steps) (overfull leaf c u batch)) smaller)
    ∙ append_assoc paths _ _
    ∙ ap (λ (l : List (List ℕ)). paths ++ l) (sym (further path g here rest))
    ∙ ap (λ (l : List (List ℕ)). paths ++ map (λ steps. path ++ steps) (map (λ steps. g ∷ steps) l ++ rest)) (sym (overfull_child leaf cube t n ts batch g u is at))
    ∙ ap (λ (l : List (List ℕ)). paths ++ map (λ steps. path ++ steps) l) (sym (next_picked test leaf_paths g ts u at))
    ∙ before

pub no_items : {X : Type 0} (xs : List X) → true ≡ nat_eq (length xs) 0 → xs ≡ []
no_items [] e = refl
no_items (x ∷ xs) e = let never : length (x ∷ xs) ≡ 0 = eqb-true (length (x ∷ xs)) 0 (sym e) in absurd (omega arith)

-- the list of a child among those of all
pub list_of_child : {V : Type 0} (items : V → List PointValue) (cube : CubeValue) (points : List PointValue) (lists : List V) (g : ℕ) (x : V)
    → map items lists ≡ map (λ k. inside (child cube k) points) (up_to 8) → g < 8 → x ≡ get_or lists g x → items x ≡ inside (child cube g) points
list_of_child items cube points lists g x all low at =
    let long : length lists ≡ 8 = sym (length-map lists items) ∙ ap length all ∙ length-map (up_to 8) (λ k. inside (child cube k) points) ∙ length-up_to 8 in
    ap items at ∙ sym (get_or-map items lists g x (items x) (omega arith)) ∙ ap (λ (ls : List (List PointValue)). get_or ls g (items x)) all
    ∙ at_up_to (λ k. inside (child cube k) points) 8 g (items x) low

pub eight_lists : {V : Type 0} (items : V → List PointValue) (cube : CubeValue) (points : List PointValue) (lists : List V) → map items lists ≡ map (λ k. inside (child cube k) points) (up_to 8) → length lists ≡ 8
eight_lists items cube points lists all = sym (length-map lists items) ∙ ap length all ∙ length-map (up_to 8) (λ k. inside (child cube k) points) ∙ length-up_to 8
