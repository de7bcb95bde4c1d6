-- Sums over the nodes of octrees of more and more points.
use Rattle.std.proofs.Common.{◌≡◌, ℕ, zero, suc, ◌+◌, ◌-◌, ◌*◌, ◌/◌, ◌<◌, ◌≤◌, inl, inr, Bool, true, false, cond, nat_eq, nat_lt, ◌&&◌, List, [], ◌∷◌, ◌++◌, map, length, sum, sum_by, ap, ◌∙◌, sym, refl, arith, append-nil, append_assoc, lt-ltb, eq-eqb, ne_eqb}
use mathlib.Core.Logic.{dite}
use native.Mathlib.Decide.{ℕ_discrete}
use Rattle.std.proofs.Math.Nat.{mul-le-mul_left}
use Rattle.std.proofs.lemmas.List.{map-append, length-append}
use Rattle.std.proofs.lemmas.List.Sums.{sum_by-cons, sum_by-append}
use Rattle.cube_math.specs.Points.{PointValue}
use Rattle.cube_math.specs.Cubes.{CubeValue, contains, child, octant, cube_at}
use Rattle.cube_math.proofs.Halves.{child_has}
use Rattle.octree_model.specs.Numbers.{up_to}
use Rattle.octree_model.specs.Octree.{inside}
use Rattle.leaf_counts.specs.declared.counts.Counts.{Counts}
use Rattle.leaf_counts.specs.Nodes.{is_leaf_at, node_total}
use Rattle.leaf_counts.specs.Paths.{leaf_paths, paths_below}
use Rattle.leaf_counts.proofs.CountLaws as counts
use Rattle.leaf_counts.proofs.CountLaws.{counts_of}
use Rattle.leaf_counts.proofs.NodeLaws.{total-Leaf, total-Inner}
use Rattle.leaf_counts.proofs.PathLaws.{leaf_paths-Leaf, leaf_paths-Inner}
use Rattle.leaf_counts.proofs.LeafLaws.{IsLeafHere, IsSplit, leaf_or_split, leaf_here, no_leaf_here, leaf_below, still_split}
use Rattle.chunk_needs.proofs.BelowLaws.{below, below_same, below_le, below_both, below_zero, sum_by-map}
use Rattle.std.proofs.lemmas.Bool.{le-ltb}

-- sums over children
pub below_scale : (k : ℕ) (a b : ℕ → ℕ) (n : ℕ) → below (λ g. 2 * a g + k * b g) n ≡ 2 * below a n + k * below b n
below_scale k a b zero = omega arith
below_scale k a b (suc n) = let r = below_scale k a b n in omega arith

pub below_parts : (a : ℕ → ℕ) (n : ℕ) → below (λ g. a g / 256) n ≤ below a n / 256
below_parts a zero = omega arith
below_parts a (suc n) = let r = below_parts a n in omega arith

one_octant : (o n : ℕ) → (below (λ g. cond (nat_eq o g) 1 0) n ≤ 1) × (n ≤ o → below (λ g. cond (nat_eq o g) 1 0) n ≡ 0)
one_octant o zero = ((let t : 0 ≤ 1 = omega arith in t), λ le. refl)
one_octant o (suc n) =
    let r = one_octant o n in
    dite (ℕ_discrete o n)
    (λ is. let z = r.1 (omega arith) in let e : cond {A = ℕ} (nat_eq o n) 1 0 ≡ 1 = ap (λ (b : Bool). cond b 1 0) (eq-eqb o n is) in
    ((let t : below (λ g. cond (nat_eq o g) 1 0) n + cond {A = ℕ} (nat_eq o n) 1 0 ≤ 1 = omega arith in t), λ le. absurd (omega arith)))
    (λ ne. let e : cond {A = ℕ} (nat_eq o n) 1 0 ≡ 0 = ap (λ (b : Bool). cond b 1 0) (ne_eqb o n ne) in let one = r.0 in
    ((let t : below (λ g. cond (nat_eq o g) 1 0) n + cond {A = ℕ} (nat_eq o n) 1 0 ≤ 1 = omega arith in t), λ le. let z = r.1 (omega arith) in let t : below (λ g. cond (nat_eq o g) 1 0) n + cond {A = ℕ} (nat_eq o n) 1 0 ≡ 0 = omega arith in t))

one_child : (b : Bool) (o n : ℕ) → below (λ g. cond (b && nat_eq o g) 1 0) n ≤ cond b 1 0
one_child true o n = (one_octant o n).0
one_child false o n = let z = below_zero (λ g. cond (false && nat_eq o g) 1 0) n (λ k l. refl) in omega arith

length_in : (c : CubeValue) (p : PointValue) (q : List PointValue) → length (inside c (p ∷ q)) ≡ cond (contains c p) 1 0 + length (inside c q)
length_in c p q = by (contains c p)
  where
    by : (b : Bool) → length (cond b (p ∷ inside c q) (inside c q)) ≡ cond b 1 0 + length (inside c q)
    by true = omega arith
    by false = omega arith

-- children have no more points than their parent
pub children_have : (c : CubeValue) (n : ℕ) (q : List PointValue) → 0 < c.bits → n ≤ 8 → below (λ g. length (inside (child c g) q)) n ≤ length (inside c q)
children_have c n [] some le = let z = below_zero (λ g. length (inside (child c g) [])) n (λ k l. refl) in omega arith
children_have c n (p ∷ q) some le =
    let r = children_have c n q some le in
    let one : ℕ → ℕ = λ g. cond (contains c p && nat_eq (octant c p) g) 1 0 in
    let e : below (λ g. length (inside (child c g) (p ∷ q))) n ≡ below (λ g. one g + length (inside (child c g) q)) n =
    below_same (λ g. length (inside (child c g) (p ∷ q))) (λ g. one g + length (inside (child c g) q)) n
    (λ g l. length_in (child c g) p q ∙ ap (λ (b : Bool). cond b 1 0 + length (inside (child c g) q)) (child_has c p g some (let t : g < 8 = omega arith in t))) in
    let d = below_both one (λ g. length (inside (child c g) q)) n in
    let o = one_child (contains c p) (octant c p) n in
    let a = length_in c p q in
    omega arith

-- sums over leaves
paths_push : (a : ℕ) (xs : List (List (List ℕ))) (y : List (List ℕ)) → paths_below a (xs ++ y ∷ []) ≡ paths_below a xs ++ map (λ path. (a + length xs) ∷ path) y
paths_push a [] y = append-nil (map (λ path. a ∷ path) y) ∙ ap (λ (k : ℕ). map (λ path. k ∷ path) y) (let e : a ≡ a + 0 = omega arith in e)
paths_push a (x ∷ xs) y =
    ap (λ (l : List (List ℕ)). map (λ path. a ∷ path) x ++ l) (paths_push (a + 1) xs y ∙ ap (λ (k : ℕ). paths_below (a + 1) xs ++ map (λ path. k ∷ path) y) (let e : (a + 1) + length xs ≡ a + suc (length xs) = omega arith in e))
    ∙ sym (append_assoc (map (λ path. a ∷ path) x) (paths_below (a + 1) xs) (map (λ path. (a + suc (length xs)) ∷ path) y))

length_two : (F : ℕ → Counts) (n : ℕ) → length (map leaf_paths (map F (up_to n))) ≡ n
length_two F zero = refl
length_two F (suc n) = ap length (ap (map leaf_paths) (map-append F (up_to n) (n ∷ [])) ∙ map-append leaf_paths (map F (up_to n)) (F n ∷ [])) ∙ length-append (map leaf_paths (map F (up_to n))) (leaf_paths (F n) ∷ []) ∙ (let r = length_two F n in let t : length (map leaf_paths (map F (up_to n))) + 1 ≡ suc n = omega arith in t)

paths_sum : (f : List ℕ → ℕ) (F : ℕ → Counts) (n : ℕ) → sum_by f (paths_below 0 (map leaf_paths (map F (up_to n)))) ≡ below (λ g. sum_by (λ path. f (g ∷ path)) (leaf_paths (F g))) n
paths_sum f F zero = refl
paths_sum f F (suc n) =
    let xs : List (List (List ℕ)) = map leaf_paths (map F (up_to n)) in
    let long : 0 + length xs ≡ n = let l = length_two F n in omega arith in
    let a : paths_below 0 (map leaf_paths (map F (up_to (suc n)))) ≡ paths_below 0 xs ++ map (λ path. n ∷ path) (leaf_paths (F n)) =
    ap (paths_below 0) (ap (map leaf_paths) (map-append F (up_to n) (n ∷ [])) ∙ map-append leaf_paths (map F (up_to n)) (F n ∷ []))
    ∙ paths_push 0 xs (leaf_paths (F n)) ∙ ap (λ (k : ℕ). paths_below 0 xs ++ map (λ path. k ∷ path) (leaf_paths (F n))) long in
    ap (sum_by f) a ∙ sum_by-append f (paths_below 0 xs) (map (λ path. n ∷ path) (leaf_paths (F n)))
    ∙ (λ i. paths_sum f F n i + sum_by-map f (λ (path : List ℕ). n ∷ path) (leaf_paths (F n)) i)

abbrev pub leaf_sum : ℕ → CubeValue → List PointValue → (List ℕ → ℕ) → ℕ
leaf_sum leaf c ps f = sum_by f (leaf_paths (counts_of leaf c ps))

pub leaf_sum_leaf : (leaf : ℕ) (c : CubeValue) (ps : List PointValue) (f : List ℕ → ℕ) → IsLeafHere leaf c ps → leaf_sum leaf c ps f ≡ f []
leaf_sum_leaf leaf c ps f s = ap (λ (t : Counts). sum_by f (leaf_paths t)) (counts.is_leaf leaf c ps s) ∙ ap (sum_by f) (leaf_paths-Leaf (length (inside c ps))) ∙ sum_by-cons f [] [] ∙ (let t : f [] + sum_by f [] ≡ f [] = omega arith in t)

pub leaf_sum_inner : (leaf : ℕ) (c : CubeValue) (ps : List PointValue) (f : List ℕ → ℕ) → IsSplit leaf c ps → leaf_sum leaf c ps f ≡ below (λ g. leaf_sum leaf (child c g) ps (λ path. f (g ∷ path))) 8
leaf_sum_inner leaf c ps f s =
    ap (λ (t : Counts). sum_by f (leaf_paths t)) (counts.is_inner leaf c ps s.more s.high)
    ∙ ap (sum_by f) (leaf_paths-Inner (length (inside c ps)) (map (λ g. counts_of leaf (child c g) ps) (up_to 8)))
    ∙ paths_sum f (λ g. counts_of leaf (child c g) ps) 8

-- sums over inner nodes, with at most so many levels
abbrev pub inner_sum : ℕ → ℕ → CubeValue → List PointValue → (List ℕ → ℕ) → ℕ
inner_sum zero leaf c ps f = 0
inner_sum (suc depth) leaf c ps f = cond (nat_lt leaf (length (inside c ps))) (f [] + below (λ g. inner_sum depth leaf (child c g) ps (λ path. f (g ∷ path))) 8) 0

inner_few : (depth leaf : ℕ) (c : CubeValue) (ps : List PointValue) (f : List ℕ → ℕ) → length (inside c ps) ≤ leaf → inner_sum depth leaf c ps f ≡ 0
inner_few zero leaf c ps f few = refl
inner_few (suc depth) leaf c ps f few = ap (λ (b : Bool). cond b (f [] + below (λ g. inner_sum depth leaf (child c g) ps (λ path. f (g ∷ path))) 8) 0) (le-ltb leaf (length (inside c ps)) few)

inner_more : (depth leaf : ℕ) (c : CubeValue) (ps : List PointValue) (f : List ℕ → ℕ) → leaf < length (inside c ps) → inner_sum (suc depth) leaf c ps f ≡ f [] + below (λ g. inner_sum depth leaf (child c g) ps (λ path. f (g ∷ path))) 8
inner_more depth leaf c ps f more = ap (λ (b : Bool). cond b (f [] + below (λ g. inner_sum depth leaf (child c g) ps (λ path. f (g ∷ path))) 8) 0) (lt-ltb leaf (length (inside c ps)) more)

inner_none : (depth leaf : ℕ) (c : CubeValue) (ps : List PointValue) (f : List ℕ → ℕ) → c.bits - 7 ≡ depth → IsLeafHere leaf c ps → inner_sum depth leaf c ps f ≡ 0
inner_none zero leaf c ps f e s = refl
inner_none (suc depth) leaf c ps f e (inl few) = inner_few (suc depth) leaf c ps f few
inner_none (suc depth) leaf c ps f e (inr low) = absurd (omega arith)

pub inner_le : (depth leaf : ℕ) (c : CubeValue) (ps : List PointValue) (f h : List ℕ → ℕ) → ((path : List ℕ) → f path ≤ h path) → inner_sum depth leaf c ps f ≤ inner_sum depth leaf c ps h
inner_le zero leaf c ps f h le = omega arith
inner_le (suc depth) leaf c ps f h le = by (nat_lt leaf (length (inside c ps))) (le [])
    (below_le (λ g. inner_sum depth leaf (child c g) ps (λ path. f (g ∷ path))) (λ g. inner_sum depth leaf (child c g) ps (λ path. h (g ∷ path))) 8 (λ g l. inner_le depth leaf (child c g) ps (λ path. f (g ∷ path)) (λ path. h (g ∷ path)) (λ path. le (g ∷ path))))
  where
    by : {x y s t : ℕ} (b : Bool) → x ≤ y → s ≤ t → cond b (x + s) 0 ≤ cond b (y + t) 0
    by true p q = omega arith
    by false p q = omega arith

-- a publication
abbrev pub split_sum : ℕ → CubeValue → List PointValue → List PointValue → (List ℕ → ℕ) → ℕ
split_sum leaf c ps qs f = leaf_sum leaf c ps (λ path. cond (is_leaf_at (counts_of leaf c (ps ++ qs)) path) 0 (f path))

split_none : (leaf : ℕ) (c : CubeValue) (ps qs : List PointValue) (f : List ℕ → ℕ) → IsLeafHere leaf c ps → IsLeafHere leaf c (ps ++ qs) → split_sum leaf c ps qs f ≡ 0
split_none leaf c ps qs f s t = leaf_sum_leaf leaf c ps (λ path. cond (is_leaf_at (counts_of leaf c (ps ++ qs)) path) 0 (f path)) s ∙ ap (λ (b : Bool). cond b 0 (f [])) (leaf_here leaf c (ps ++ qs) t)

split_here : (leaf : ℕ) (c : CubeValue) (ps qs : List PointValue) (f : List ℕ → ℕ) → IsLeafHere leaf c ps → IsSplit leaf c (ps ++ qs) → split_sum leaf c ps qs f ≡ f []
split_here leaf c ps qs f s t = leaf_sum_leaf leaf c ps (λ path. cond (is_leaf_at (counts_of leaf c (ps ++ qs)) path) 0 (f path)) s ∙ ap (λ (b : Bool). cond b 0 (f [])) (no_leaf_here leaf c (ps ++ qs) t)

sum_agree : {X : Type 0} (f h : X → ℕ) (xs : List X) → ((x : X) → f x ≡ h x) → sum_by f xs ≡ sum_by h xs
sum_agree f h [] e = refl
sum_agree f h (x ∷ xs) e = let r = sum_agree f h xs e in let a = sum_by-cons f x xs in let b = sum_by-cons h x xs in let t = e x in omega arith

split_below : (leaf : ℕ) (c : CubeValue) (ps qs : List PointValue) (f : List ℕ → ℕ) → IsSplit leaf c ps → IsSplit leaf c (ps ++ qs) → split_sum leaf c ps qs f ≡ below (λ g. split_sum leaf (child c g) ps qs (λ path. f (g ∷ path))) 8
split_below leaf c ps qs f s t =
    leaf_sum_inner leaf c ps (λ path. cond (is_leaf_at (counts_of leaf c (ps ++ qs)) path) 0 (f path)) s
    ∙ below_same (λ g. leaf_sum leaf (child c g) ps (λ path. cond (is_leaf_at (counts_of leaf c (ps ++ qs)) (g ∷ path)) 0 (f (g ∷ path)))) (λ g. split_sum leaf (child c g) ps qs (λ path. f (g ∷ path))) 8
    (λ g l. sum_agree (λ path. cond (is_leaf_at (counts_of leaf c (ps ++ qs)) (g ∷ path)) 0 (f (g ∷ path))) (λ path. cond (is_leaf_at (counts_of leaf (child c g) (ps ++ qs)) path) 0 (f (g ∷ path))) (leaf_paths (counts_of leaf (child c g) ps))
    (λ path. ap (λ (b : Bool). cond b 0 (f (g ∷ path))) (leaf_below leaf c (ps ++ qs) g path t l)))

-- the leaves that were split are inner nodes now, and the inner nodes of before still are
pub splits_become_inner : (depth leaf : ℕ) (c : CubeValue) (ps qs : List PointValue) (f : List ℕ → ℕ) → c.bits - 7 ≡ depth → inner_sum depth leaf c ps f + split_sum leaf c ps qs f ≤ inner_sum depth leaf c (ps ++ qs) f
splits_become_inner zero leaf c ps qs f e = let z = split_none leaf c ps qs f (inr (omega arith)) (inr (omega arith)) in omega arith
splits_become_inner (suc depth) leaf c ps qs f e = elim (leaf_or_split leaf c ps) [
  | inl s ↦ elim (leaf_or_split leaf c (ps ++ qs)) [
    | inl t ↦ (let z = split_none leaf c ps qs f s t in let y = inner_none (suc depth) leaf c ps f e s in omega arith)
    | inr t ↦ (let z = split_here leaf c ps qs f s t in let y = inner_none (suc depth) leaf c ps f e s in let x = inner_more depth leaf c (ps ++ qs) f t.more in omega arith)
  ]
  | inr s ↦
      let t = still_split leaf c ps qs s in
      let a = inner_more depth leaf c ps f s.more in
      let b = inner_more depth leaf c (ps ++ qs) f t.more in
      let d = split_below leaf c ps qs f s t in
      let F : ℕ → ℕ = λ g. inner_sum depth leaf (child c g) ps (λ path. f (g ∷ path)) in
      let G : ℕ → ℕ = λ g. split_sum leaf (child c g) ps qs (λ path. f (g ∷ path)) in
      let H : ℕ → ℕ = λ g. inner_sum depth leaf (child c g) (ps ++ qs) (λ path. f (g ∷ path)) in
      let both = below_both F G 8 in
      let le : below (λ g. F g + G g) 8 ≤ below H 8 = below_le (λ g. F g + G g) H 8 (λ g l. splits_become_inner depth leaf (child c g) ps qs (λ path. f (g ∷ path)) (omega arith)) in
      sums (f []) (below F 8) (below G 8) (below (λ g. F g + G g) 8) (below H 8) _ _ _ a d b both le
]
  where
    sums : (x p q r s l m n : ℕ) → l ≡ x + p → m ≡ q → n ≡ x + s → r ≡ p + q → r ≤ s → l + m ≤ n
    sums x p q r s l m n a b c d e = omega arith

-- all levels
children_total : (F : ℕ → Counts) (n : ℕ) → sum (map node_total (map F (up_to n))) ≡ below (λ g. node_total (F g)) n
children_total F zero = refl
children_total F (suc n) =
    ap sum (ap (map node_total) (map-append F (up_to n) (n ∷ [])) ∙ map-append node_total (map F (up_to n)) (F n ∷ []))
    ∙ sum_by-append (λ (m : ℕ). m) (map node_total (map F (up_to n))) (node_total (F n) ∷ [])
    ∙ (let r = children_total F n in let a = sum_by-cons (λ (m : ℕ). m) (node_total (F n)) [] in let t : sum_by (λ (m : ℕ). m) (map node_total (map F (up_to n))) + sum_by (λ (m : ℕ). m) (node_total (F n) ∷ []) ≡ below (λ g. node_total (F g)) n + node_total (F n) = omega arith in t)

-- two for each node, and the chunks that the points in its cube fill
abbrev pub filled : CubeValue → List PointValue → List ℕ → ℕ
filled c q path = 2 + length (inside (cube_at c path) q) / 256

pub levels : (depth leaf : ℕ) (c : CubeValue) (ps q : List PointValue) → c.bits - 7 ≡ depth
    → inner_sum depth leaf c ps (filled c q) + leaf_sum leaf c ps (filled c q) ≤ 2 * node_total (counts_of leaf c ps) + (depth + 1) * (length (inside c q) / 256)
levels zero leaf c ps q e =
    let s : IsLeafHere leaf c ps = inr (omega arith) in
    let a = leaf_sum_leaf leaf c ps (filled c q) s in
    let b : node_total (counts_of leaf c ps) ≡ 1 = ap node_total (counts.is_leaf leaf c ps s) ∙ total-Leaf (length (inside c ps)) in
    omega arith
levels (suc depth) leaf c ps q e = elim (leaf_or_split leaf c ps) [
  | inl s ↦
      (let a = leaf_sum_leaf leaf c ps (filled c q) s in
      let z = inner_none (suc depth) leaf c ps (filled c q) e s in
      let b : node_total (counts_of leaf c ps) ≡ 1 = ap node_total (counts.is_leaf leaf c ps s) ∙ total-Leaf (length (inside c ps)) in
      few _ _ _ depth (length (inside c q) / 256) z a b)
  | inr s ↦
      let a = inner_more depth leaf c ps (filled c q) s.more in
      let d = leaf_sum_inner leaf c ps (filled c q) s in
      let F : ℕ → ℕ = λ g. inner_sum depth leaf (child c g) ps (filled (child c g) q) in
      let G : ℕ → ℕ = λ g. leaf_sum leaf (child c g) ps (filled (child c g) q) in
      let N : ℕ → ℕ = λ g. node_total (counts_of leaf (child c g) ps) in
      let B : ℕ → ℕ = λ g. length (inside (child c g) q) in
      let le : below (λ g. F g + G g) 8 ≤ below (λ g. 2 * N g + (depth + 1) * (B g / 256)) 8 =
      below_le (λ g. F g + G g) (λ g. 2 * N g + (depth + 1) * (B g / 256)) 8 (λ g l. levels depth leaf (child c g) ps q (let t : (child c g).bits - 7 ≡ depth = omega arith in t)) in
      let both : below (λ g. F g + G g) 8 ≡ below F 8 + below G 8 = below_both F G 8 in
      let scale : below (λ g. 2 * N g + (depth + 1) * (B g / 256)) 8 ≡ 2 * below N 8 + (depth + 1) * below (λ g. B g / 256) 8 = below_scale (depth + 1) N (λ g. B g / 256) 8 in
      let total : node_total (counts_of leaf c ps) ≡ 1 + below N 8 =
      ap node_total (counts.is_inner leaf c ps s.more s.high) ∙ total-Inner (length (inside c ps)) (map (λ g. counts_of leaf (child c g) ps) (up_to 8)) ∙ ap (λ (n : ℕ). 1 + n) (children_total (λ g. counts_of leaf (child c g) ps) 8) in
      let part : below (λ g. B g / 256) 8 ≤ length (inside c q) / 256 =
      let x = below_parts B 8 in let y = children_have c 8 q (let t : 0 < c.bits = let h = s.high in omega arith in t) (omega arith) in quotient (below (λ g. B g / 256) 8) (below B 8) (length (inside c q)) x y in
      let product : (depth + 1) * below (λ g. B g / 256) 8 ≤ (depth + 1) * (length (inside c q) / 256) = mul-le-mul_left (depth + 1) part in
      more _ _ (below F 8) (below G 8) (below (λ g. F g + G g) 8) (below (λ g. 2 * N g + (depth + 1) * (B g / 256)) 8) (below N 8) ((depth + 1) * below (λ g. B g / 256) 8) _ depth (length (inside c q) / 256) a d le both scale total product
]
  where
    few : (x y z depth n : ℕ) → x ≡ 0 → y ≡ 2 + n → z ≡ 1 → x + y ≤ 2 * z + (suc depth + 1) * n
    few x y z depth n a b d = omega arith

    quotient : (x b n : ℕ) → x ≤ b / 256 → b ≤ n → x ≤ n / 256
    quotient x b n a d = omega arith

    more : (i l f g s t n p total depth q : ℕ) → i ≡ (2 + q) + f → l ≡ g → s ≤ t → s ≡ f + g → t ≡ 2 * n + p → total ≡ 1 + n → p ≤ (depth + 1) * q → i + l ≤ 2 * total + (suc depth + 1) * q
    more i l f g s t n p total depth q a b d e h k m = omega arith
