-- The paths that splitting a node names.
use Rattle.std.proofs.Common.{◌≡◌, ◌⊎◌, ℕ, suc, ◌+◌, ◌<◌, ◌≤◌, inl, inr, List, [], ◌∷◌, ◌++◌, map, length, ap, ◌∙◌, sym, arith, append_assoc, IsTrue, add-one}
use Rattle.std.specs.List.{All}
use Rattle.std.proofs.lemmas.List.{map-append, append-nil, length-map}
use Rattle.cube_math.specs.Points.{PointValue}
use Rattle.cube_math.specs.Cubes.{CubeValue, contains, child}
use Rattle.octree_model.specs.Numbers.{up_to}
use Rattle.octree_model.specs.Octree.{inside, octree}
use Rattle.octree_model.proofs.NumberLaws.{length-up_to}
use Rattle.octree_model.proofs.OctreeLaws.{all_inside}
use Rattle.leaf_counts.specs.declared.counts.Counts.{Counts, Leaf, Inner}
use Rattle.leaf_counts.specs.Nodes.{counted}
use Rattle.leaf_counts.specs.Paths.{paths_below}
use Rattle.leaf_counts.proofs.CountLaws.{counts_of, counted_is, is_leaf, is_inner}
use Rattle.leaf_counts.proofs.PathLaws.{further}

-- paths below one child more
pub paths_push : (g : ℕ) (xss : List (List (List ℕ))) (xs : List (List ℕ)) → paths_below g (xss ++ xs ∷ []) ≡ paths_below g xss ++ map (λ path. (g + length xss) ∷ path) xs
paths_push g [] xs = append-nil (map (λ path. g ∷ path) xs) ∙ ap (λ k. map (λ path. k ∷ path) xs) (at_end g)
  where
    at_end : (g : ℕ) → g ≡ g + 0
    at_end g = omega arith
paths_push g (ys ∷ yss) xs =
    ap (λ (l : List (List ℕ)). map (λ path. g ∷ path) ys ++ l) (paths_push (g + 1) yss xs ∙ ap (λ k. paths_below (g + 1) yss ++ map (λ path. k ∷ path) xs) (one_on g (length yss)))
    ∙ sym (append_assoc (map (λ path. g ∷ path) ys) (paths_below (g + 1) yss) (map (λ path. (g + suc (length yss)) ∷ path) xs))
  where
    one_on : (g k : ℕ) → g + 1 + k ≡ g + suc k
    one_on g k = omega arith

-- what is named once one child more is done
pub named_more : (f : Counts → List (List ℕ)) (path path' : List ℕ) (g : ℕ) (lead old now new : List (List ℕ)) (ts ts' : List Counts) (t : Counts) → length ts ≡ g → ts' ≡ ts ++ t ∷ [] → path' ≡ path ++ g ∷ []
    → now ≡ old ++ map (λ steps. path ++ steps) (lead ++ paths_below 0 (map f ts)) → new ≡ now ++ map (λ steps. path' ++ steps) (f t)
    → new ≡ old ++ map (λ steps. path ++ steps) (lead ++ paths_below 0 (map f ts'))
named_more f path path' g lead old now new ts ts' t long pushed further_path before named =
    let done : List (List ℕ) = paths_below 0 (map f ts) in
    let more : paths_below 0 (map f ts') ≡ done ++ map (λ steps. g ∷ steps) (f t) =
    ap (λ (l : List Counts). paths_below 0 (map f l)) pushed ∙ ap (paths_below 0) (map-append f ts (t ∷ [])) ∙ paths_push 0 (map f ts) (f t)
    ∙ ap (λ k. done ++ map (λ steps. k ∷ steps) (f t)) (from_zero (length (map f ts)) ∙ length-map ts f ∙ long) in
    let last : map (λ steps. path ++ steps) (map (λ steps. g ∷ steps) (f t)) ≡ map (λ steps. (path ++ g ∷ []) ++ steps) (f t) =
    ap (map (λ steps. path ++ steps)) (sym (append-nil (map (λ steps. g ∷ steps) (f t)))) ∙ further path g (f t) [] ∙ append-nil (map (λ steps. (path ++ g ∷ []) ++ steps) (f t)) in
    named ∙ (λ i. before i ++ map (λ steps. further_path i ++ steps) (f t))
    ∙ append_assoc old (map (λ steps. path ++ steps) (lead ++ done)) (map (λ steps. (path ++ g ∷ []) ++ steps) (f t))
    ∙ ap (λ (l : List (List ℕ)). old ++ l)
    (ap (λ (l : List (List ℕ)). map (λ steps. path ++ steps) (lead ++ done) ++ l) (sym last) ∙ sym (map-append (λ steps. path ++ steps) (lead ++ done) (map (λ steps. g ∷ steps) (f t)))
    ∙ ap (map (λ steps. path ++ steps)) (append_assoc lead done (map (λ steps. g ∷ steps) (f t)) ∙ ap (λ (l : List (List ℕ)). lead ++ l) (sym more)))
  where
    from_zero : (k : ℕ) → 0 + k ≡ k
    from_zero k = omega arith

-- ---- counts of points that lie in the cube
pub leaf_of_points : (leaf : ℕ) (cube : CubeValue) (ps : List PointValue) (n : ℕ) → All (λ p. IsTrue (contains cube p)) ps → n ≡ length ps → (length ps ≤ leaf) ⊎ (cube.bits ≤ 7) → Leaf n ≡ counted (octree leaf cube ps)
leaf_of_points leaf cube ps n h count stays =
    let whole : length ps ≡ length (inside cube ps) = ap length (sym (all_inside cube ps h)) in
    ap Leaf (count ∙ whole) ∙ sym (counted_is leaf cube ps ∙ is_leaf leaf cube ps (elim stays [ inl few ↦ inl (omega arith) | inr low ↦ inr low ]))

pub inner_of_points : (leaf : ℕ) (cube : CubeValue) (ps : List PointValue) (n g : ℕ) (ts : List Counts) → All (λ p. IsTrue (contains cube p)) ps → n ≡ length ps → leaf < length ps → 7 < cube.bits → g ≡ 8
    → ts ≡ map (λ k. counts_of leaf (child cube k) ps) (up_to g) → Inner n ts ≡ counted (octree leaf cube ps)
inner_of_points leaf cube ps n g ts h count more high end made =
    let whole : length ps ≡ length (inside cube ps) = ap length (sym (all_inside cube ps h)) in
    let all : ts ≡ map (λ k. counts_of leaf (child cube k) ps) (up_to 8) = made ∙ ap (λ k. map (λ k. counts_of leaf (child cube k) ps) (up_to k)) end in
    (λ i. Inner ((count ∙ whole) i) (all i)) ∙ sym (counted_is leaf cube ps ∙ is_inner leaf cube ps (omega arith) high)

-- one child more
pub one_more : (F : ℕ → Counts) (g : ℕ) (ts ts' : List Counts) (t : Counts) → ts ≡ map F (up_to g) → ts' ≡ ts ++ t ∷ [] → t ≡ F g → ts' ≡ map F (up_to (g + 1))
one_more F g ts ts' t before pushed is =
    rw add-one (pushed ∙ ap (λ (l : List Counts). l ++ t ∷ []) before ∙ ap (λ x. map F (up_to g) ++ x ∷ []) is ∙ sym (map-append F (up_to g) (g ∷ [])))

pub so_many : (F : ℕ → Counts) (g : ℕ) (ts : List Counts) → ts ≡ map F (up_to g) → length ts ≡ g
so_many F g ts made = ap length made ∙ length-map (up_to g) F ∙ length-up_to g
