-- The points of a node, spread over its children.
use Rattle.std.proofs.Common.{◌≡◌, ℕ, ◌+◌, ◌<◌, inl, inr, false, ◌&&◌, List, [], ◌∷◌, ◌++◌, map, take, length, get_or, set, ap, ◌∙◌, sym, refl, arith, IsTrue, nat_eq, cond}
use Rattle.std.proofs.lemmas.List.{length-set, length-take, length_push, get_or-set_same, get_or-set_other, map-set, same_lists, append-nil}
use Rattle.std.proofs.lemmas.List.Elements.{filter_more}
use Rattle.std.proofs.lemmas.List.Sums.{length-filter, count_by-le-length}
use Rattle.std.proofs.lemmas.Simd.{map-map}
use Rattle.std.proofs.lemmas.Bool.{cases_eq, eq-eqb, ne_eqb, and_from, and_right}
use Rattle.cube_math.specs.Points.{PointValue}
use Rattle.cube_math.specs.Cubes.{CubeValue, contains, child, octant}
use Rattle.cube_math.proofs.Halves.{child_has}
use Rattle.octree_model.specs.Numbers.{up_to}
use Rattle.octree_model.specs.Octree.{inside}
use Rattle.octree_model.proofs.NumberLaws.{at_up_to}

-- the points of each child among the first i
abbrev pub spread : CubeValue → List PointValue → ℕ → List (List PointValue)
spread c ps i = map (λ g. inside (child c g) (take i ps)) (up_to 8)

-- a child gets the next point where it lies in its octant
child_more : (c : CubeValue) (ps : List PointValue) (i : ℕ) (p : PointValue) (k : ℕ) → 0 < c.bits → k < 8 → i < length ps → p ≡ get_or ps i p
    → inside (child c k) (take (i + 1) ps) ≡ inside (child c k) (take i ps) ++ cond (contains c p && nat_eq (octant c p) k) (p ∷ []) []
child_more c ps i p k s l b at =
    filter_more (contains (child c k)) ps i p b
    ∙ ap (λ q. inside (child c k) (take i ps) ++ cond (contains (child c k) q) (q ∷ []) []) (sym at)
    ∙ ap (λ t. inside (child c k) (take i ps) ++ cond t (p ∷ []) []) (child_has c p k s l)

-- the next point goes to the list of its octant
pub spread_more : (c : CubeValue) (ps : List PointValue) (i g : ℕ) (p : PointValue) (L : List (List PointValue)) (v : List PointValue) → 0 < c.bits → i < length ps → p ≡ get_or ps i p
    → IsTrue (contains c p) → g ≡ octant c p → g < 8 → L ≡ spread c ps i → v ≡ get_or L g [] ++ p ∷ [] → set L g v ≡ spread c ps (i + 1)
spread_more c ps i g p L v s b at has o l before e =
    let F : ℕ → List PointValue = λ k. inside (child c k) (take i ps) in
    let F' : ℕ → List PointValue = λ k. inside (child c k) (take (i + 1) ps) in
    let eight : length L ≡ 8 = ap length before in
    let here : g < length L = omega arith in
    let first : v ≡ F g ++ p ∷ [] = e ∙ ap (λ (l : List (List PointValue)). get_or l g [] ++ p ∷ []) before ∙ ap (λ (l : List PointValue). l ++ p ∷ []) (at_up_to F 8 g [] l) in
    let new_here : F' g ≡ F g ++ p ∷ [] =
    child_more c ps i p g s l b at ∙ ap (λ t. F g ++ cond t (p ∷ []) []) (and_from _ _ has (eq-eqb _ _ (sym o))) in
    same_lists (set L g v) (spread c ps (i + 1)) (length-set L g v ∙ eight) (λ k d h.
    let k8 : k < 8 = omega (arith, length-set L g v) in
    elim (cases_eq k g) [
      | inl same ↦ rw same (get_or-set_same L g v d here ∙ first ∙ sym new_here ∙ sym (at_up_to F' 8 g d l))
      | inr other ↦
          let none : (contains c p && nat_eq (octant c p) k) ≡ false = and_right _ _ (ne_eqb _ _ (λ q. other (sym q ∙ sym o))) in
          get_or-set_other L g k v d other ∙ ap (λ (l : List (List PointValue)). get_or l k d) before ∙ at_up_to F 8 k d k8
          ∙ sym (at_up_to F' 8 k d k8 ∙ child_more c ps i p k s k8 b at ∙ ap (λ t. F k ++ cond t (p ∷ []) []) none ∙ append-nil (F k))
    ])

-- the count of the next point's octant grows by one
pub count_more : (c : CubeValue) (ps : List PointValue) (i g n : ℕ) (p : PointValue) (counts : List ℕ) → 0 < c.bits → i < length ps → p ≡ get_or ps i p
    → IsTrue (contains c p) → g ≡ octant c p → g < 8 → counts ≡ map (λ g. length (inside (child c g) (take i ps))) (up_to 8) → n ≡ get_or counts g 0 + 1
    → set counts g n ≡ map (λ g. length (inside (child c g) (take (i + 1) ps))) (up_to 8)
count_more c ps i g n p counts s b at has o l before e =
    let F : ℕ → List PointValue = λ k. inside (child c k) (take i ps) in
    let v : List PointValue = F g ++ p ∷ [] in
    let grown : set (spread c ps i) g v ≡ spread c ps (i + 1) =
    spread_more c ps i g p (spread c ps i) v s b at has o l refl (ap (λ (xs : List PointValue). xs ++ p ∷ []) (sym (at_up_to F 8 g [] l))) in
    let more : n ≡ length v = e ∙ ap (λ (ks : List ℕ). get_or ks g 0 + 1) before ∙ ap (λ m. m + 1) (at_up_to (λ k. length (F k)) 8 g 0 l) ∙ sym (length_push (F g) p) in
    ap (λ (ks : List ℕ). set ks g n) before ∙ ap (set (map (λ k. length (F k)) (up_to 8)) g) more
    ∙ ap (λ (ks : List ℕ). set ks g (length v)) (sym (map-map length F (up_to 8)))
    ∙ sym (map-set length (spread c ps i) g v) ∙ ap (map length) grown ∙ map-map length (λ k. inside (child c k) (take (i + 1) ps)) (up_to 8)

-- an octant has no more of the first points than there are
pub few_counted : (c : CubeValue) (ps : List PointValue) (i g : ℕ) (counts : List ℕ) → i < length ps → g < 8
    → counts ≡ map (λ g. length (inside (child c g) (take i ps))) (up_to 8) → get_or counts g 0 < length ps
few_counted c ps i g counts b l before =
    let is : get_or counts g 0 ≡ length (inside (child c g) (take i ps)) = ap (λ (ks : List ℕ). get_or ks g 0) before ∙ at_up_to (λ k. length (inside (child c k) (take i ps))) 8 g 0 l in
    omega (arith, is, length-filter (contains (child c g)) (take i ps), count_by-le-length (contains (child c g)) (take i ps), length-take i ps)
