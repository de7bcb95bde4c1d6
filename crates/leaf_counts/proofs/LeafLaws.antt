-- The leaves of octrees of more and more points: which stay, which are split, and in which a point lies.
use Rattle.std.proofs.Common.{◌≡◌, ◌⊎◌, ℕ, zero, suc, ◌+◌, ◌<◌, ◌≤◌, inl, inr, Bool, true, false, not, cond, ◌&&◌, List, [], ◌∷◌, ◌++◌, map, length, filter, Some, None, Option, ap, ◌∙◌, sym, refl, arith, slice_get, length-append, subst}
use Rattle.std.proofs.lemmas.Bool.{cases_lt, and_parts, eqb-true, and_right, and_from, le-ltb, lt-ltb}
use Rattle.std.specs.Prelude.{unwrap_or, option_map, nat_lt}
use Rattle.std.specs.List.{All, AllByRecursion}
use Rattle.std.proofs.lemmas.List.Elements.{All-from_recursion, filter-append}
use Rattle.std.proofs.lemmas.Option.{none-some, slice_get_read, slice_get_past, slice_get_within, get_or_from_slice_get}
use Rattle.cube_math.specs.Points.{PointValue}
use Rattle.cube_math.specs.Cubes.{CubeValue, contains, child, octant}
use Rattle.cube_math.proofs.Halves.{child_has}
use Rattle.octree_model.specs.Numbers.{up_to}
use Rattle.octree_model.specs.Octree.{inside, octree}
use Rattle.leaf_counts.specs.Overfull.{overfull, is_overfull}
use Rattle.leaf_counts.specs.declared.counts.Counts.{Counts}
use Rattle.leaf_counts.specs.Nodes.{NodeValue, NodesAt, counted, node_at, count_at, is_leaf, is_leaf_at, cube_at}
use Rattle.leaf_counts.specs.Paths.{leaf_paths}
use Rattle.leaf_counts.proofs.CommitLaws.{node_says}
use Rattle.leaf_counts.proofs.NewLaws.{no_new_leaves}
use Rattle.leaf_counts.proofs.CountLaws as counts
use Rattle.leaf_counts.proofs.CountLaws.{counts_of, counted_is}
use Rattle.leaf_counts.proofs.NodeLaws.{node_at-Leaf, node_at-Inner}
use Rattle.leaf_counts.proofs.OverfullLaws.{child_counts, eight_children}
use Rattle.leaf_counts.proofs.PathLaws.{picked, picked-cons, same_test, none_below, leaf_paths-Leaf, leaf_paths-Inner}
use Rattle.leaf_counts.proofs.WayLaws.{node_below, no_node_below, none_below_leaf}

-- ---- one node
abbrev pub IsLeafHere : ℕ → CubeValue → List PointValue → Type 0
IsLeafHere leaf c ps = (length (inside c ps) ≤ leaf) ⊎ (c.bits ≤ 7)

pub record IsSplit (leaf : ℕ) (c : CubeValue) (ps : List PointValue) : Type 0 where
  pub more : leaf < length (inside c ps)
  pub high : 7 < c.bits

pub leaf_or_split : (leaf : ℕ) (c : CubeValue) (ps : List PointValue) → IsLeafHere leaf c ps ⊎ IsSplit leaf c ps
leaf_or_split leaf c ps = elim (cases_lt leaf (length (inside c ps))) [
  | inl more ↦ elim (cases_lt 7 c.bits) [
    | inl high ↦ inr record { more = more; high = high }
    | inr low ↦ inl (inr low)
  ]
  | inr few ↦ inl (inl few)
]

children_of : ℕ → CubeValue → List PointValue → List Counts
children_of leaf c ps = map (λ g. counts_of leaf (child c g) ps) (up_to 8)

false_true : false ≡ true → ⊥
false_true e = cc

pub leaf_here : (leaf : ℕ) (c : CubeValue) (ps : List PointValue) → IsLeafHere leaf c ps → is_leaf_at (counts_of leaf c ps) [] ≡ true
leaf_here leaf c ps s = ap (λ (t : Counts). is_leaf_at t []) (counts.is_leaf leaf c ps s) ∙ ap (λ (f : NodesAt). is_leaf (f [])) (node_at-Leaf _)

pub no_leaf_here : (leaf : ℕ) (c : CubeValue) (ps : List PointValue) → IsSplit leaf c ps → is_leaf_at (counts_of leaf c ps) [] ≡ false
no_leaf_here leaf c ps s = ap (λ (t : Counts). is_leaf_at t []) (counts.is_inner leaf c ps s.more s.high) ∙ ap (λ (f : NodesAt). is_leaf (f [])) (node_at-Inner _ _)

pub no_leaf_below : (leaf : ℕ) (c : CubeValue) (ps : List PointValue) (g : ℕ) (path : List ℕ) → IsLeafHere leaf c ps → is_leaf_at (counts_of leaf c ps) (g ∷ path) ≡ false
no_leaf_below leaf c ps g path s = ap is_leaf (none_below_leaf _ _ g path (counts.is_leaf leaf c ps s))

node_of_child : (leaf : ℕ) (c : CubeValue) (ps : List PointValue) (g : ℕ) (path : List ℕ) → IsSplit leaf c ps → g < 8 → node_at (counts_of leaf c ps) (g ∷ path) ≡ node_at (counts_of leaf (child c g) ps) path
unfolding children_of
node_of_child leaf c ps g path s low =
    node_below _ _ g (children_of leaf c ps) path (counts_of leaf (child c g) ps) (counts.is_inner leaf c ps s.more s.high)
    (slice_get_read (children_of leaf c ps) 8 g _ (sym (eight_children leaf c ps)) low (sym (child_counts leaf c ps g _ low)))

no_node_of_child : (leaf : ℕ) (c : CubeValue) (ps : List PointValue) (g : ℕ) (path : List ℕ) → IsSplit leaf c ps → 8 ≤ g → node_at (counts_of leaf c ps) (g ∷ path) ≡ None
unfolding children_of
no_node_of_child leaf c ps g path s past =
    no_node_below _ _ g (children_of leaf c ps) path (counts.is_inner leaf c ps s.more s.high) (slice_get_past (children_of leaf c ps) g (omega (arith, eight_children leaf c ps)))

pub leaf_below : (leaf : ℕ) (c : CubeValue) (ps : List PointValue) (g : ℕ) (path : List ℕ) → IsSplit leaf c ps → g < 8 → is_leaf_at (counts_of leaf c ps) (g ∷ path) ≡ is_leaf_at (counts_of leaf (child c g) ps) path
leaf_below leaf c ps g path s low = ap is_leaf (node_of_child leaf c ps g path s low)

no_child : (leaf : ℕ) (c : CubeValue) (ps : List PointValue) (g : ℕ) (path : List ℕ) → IsSplit leaf c ps → 8 ≤ g → is_leaf_at (counts_of leaf c ps) (g ∷ path) ≡ false
no_child leaf c ps g path s past = ap is_leaf (no_node_of_child leaf c ps g path s past)

-- a leaf below a node
pub record IsLeafBelowHere (leaf : ℕ) (c : CubeValue) (ps : List PointValue) (g : ℕ) (path : List ℕ) : Type 0 where
  pub split : IsSplit leaf c ps
  pub octant : g < 8
  pub ends : is_leaf_at (counts_of leaf (child c g) ps) path ≡ true

pub below : (leaf : ℕ) (c : CubeValue) (ps : List PointValue) (g : ℕ) (path : List ℕ) → is_leaf_at (counts_of leaf c ps) (g ∷ path) ≡ true → IsLeafBelowHere leaf c ps g path
below leaf c ps g path e = elim (leaf_or_split leaf c ps) [
  | inl s ↦ absurd (false_true (sym (no_leaf_below leaf c ps g path s) ∙ e))
  | inr s ↦ elim (cases_lt g 8) [
    | inl low ↦ record { split = s; octant = low; ends = sym (leaf_below leaf c ps g path s low) ∙ e }
    | inr past ↦ absurd (false_true (sym (no_child leaf c ps g path s past) ∙ e))
  ]
]

no_fewer : (c : CubeValue) (ps qs : List PointValue) → length (inside c ps) ≤ length (inside c (ps ++ qs))
no_fewer c ps qs = omega (arith, ap length (filter-append (contains c) ps qs), length-append (inside c ps) (inside c qs))

pub still_split : (leaf : ℕ) (c : CubeValue) (ps qs : List PointValue) → IsSplit leaf c ps → IsSplit leaf c (ps ++ qs)
still_split leaf c ps qs s = record { more = omega (arith, no_fewer c ps qs, s.more); high = s.high }

-- ---- paths of leaves
pub leaf_contained : (path : List ℕ) (leaf : ℕ) (c : CubeValue) (ps : List PointValue) (p : PointValue) → is_leaf_at (counts_of leaf c ps) path ≡ true → contains (cube_at c path) p ≡ true → contains c p ≡ true
leaf_contained [] leaf c ps p e h = h
leaf_contained (g ∷ path) leaf c ps p e h =
    let b : IsLeafBelowHere leaf c ps g path = below leaf c ps g path e in
    let in_child : contains (child c g) p ≡ true = leaf_contained path leaf (child c g) ps p b.ends h in
    (and_parts _ _ (sym (child_has c p g (omega (arith, b.split.high)) b.octant) ∙ in_child)).0

octant_is : (path : List ℕ) (leaf : ℕ) (c : CubeValue) (ps : List PointValue) (p : PointValue) (g : ℕ) → is_leaf_at (counts_of leaf c ps) (g ∷ path) ≡ true → contains (cube_at (child c g) path) p ≡ true → octant c p ≡ g
octant_is path leaf c ps p g e h =
    let b : IsLeafBelowHere leaf c ps g path = below leaf c ps g path e in
    let in_child : contains (child c g) p ≡ true = leaf_contained path leaf (child c g) ps p b.ends h in
    eqb-true _ _ (and_parts _ _ (sym (child_has c p g (omega (arith, b.split.high)) b.octant) ∙ in_child)).1

-- a point lies in one leaf
pub one_leaf : (path path' : List ℕ) (leaf : ℕ) (c : CubeValue) (ps : List PointValue) (p : PointValue) → is_leaf_at (counts_of leaf c ps) path ≡ true → is_leaf_at (counts_of leaf c ps) path' ≡ true
    → contains (cube_at c path) p ≡ true → contains (cube_at c path') p ≡ true → path ≡ path'
one_leaf [] [] leaf c ps p e e' h h' = refl
one_leaf [] (g ∷ path') leaf c ps p e e' h h' = absurd (false_true (sym (no_leaf_here leaf c ps (below leaf c ps g path' e').split) ∙ e))
one_leaf (g ∷ path) [] leaf c ps p e e' h h' = absurd (false_true (sym (no_leaf_here leaf c ps (below leaf c ps g path e).split) ∙ e'))
one_leaf (g ∷ path) (g' ∷ path') leaf c ps p e e' h h' =
    let same : g ≡ g' = sym (octant_is path leaf c ps p g e h) ∙ octant_is path' leaf c ps p g' e' h' in
    let b : IsLeafBelowHere leaf c ps g path = below leaf c ps g path e in
    let b' : IsLeafBelowHere leaf c ps g' path' = below leaf c ps g' path' e' in
    let P : ℕ → Type 0 = λ k. is_leaf_at (counts_of leaf (child c k) ps) path' ≡ true in
    let Q : ℕ → Type 0 = λ k. contains (cube_at (child c k) path') p ≡ true in
    let rest : path ≡ path' = one_leaf path path' leaf (child c g) ps p b.ends (subst P (sym same) b'.ends) h (subst Q (sym same) h') in
    λ i. same i ∷ rest i

-- what was a leaf and is one now was one all the time between
pub leaf_between : (path : List ℕ) (leaf : ℕ) (c : CubeValue) (ps qs rs : List PointValue) → is_leaf_at (counts_of leaf c ps) path ≡ true → is_leaf_at (counts_of leaf c ((ps ++ qs) ++ rs)) path ≡ true
    → is_leaf_at (counts_of leaf c (ps ++ qs)) path ≡ true
leaf_between [] leaf c ps qs rs e e' = elim (leaf_or_split leaf c (ps ++ qs)) [
  | inl s ↦ leaf_here leaf c (ps ++ qs) s
  | inr s ↦ absurd (false_true (sym (no_leaf_here leaf c ((ps ++ qs) ++ rs) (still_split leaf c (ps ++ qs) rs s)) ∙ e'))
]
leaf_between (g ∷ path) leaf c ps qs rs e e' =
    let b : IsLeafBelowHere leaf c ps g path = below leaf c ps g path e in
    let b' : IsLeafBelowHere leaf c ((ps ++ qs) ++ rs) g path = below leaf c ((ps ++ qs) ++ rs) g path e' in
    leaf_below leaf c (ps ++ qs) g path (still_split leaf c ps qs b.split) b.octant ∙ leaf_between path leaf (child c g) ps qs rs b.ends b'.ends

-- ---- the leaves that stay
-- the paths below two lists of children that pass are the same, where it is so for each child
same_picked : (first second : List ℕ → Bool) (g : ℕ) (us ts : List Counts) → length us ≡ length ts
    → ((k : ℕ) (u t : Counts) → slice_get us k ≡ Some u → slice_get ts k ≡ Some t → filter (λ path. first ((g + k) ∷ path)) (leaf_paths u) ≡ filter (λ path. second ((g + k) ∷ path)) (leaf_paths t))
    → picked first leaf_paths g us ≡ picked second leaf_paths g ts
same_picked first second g [] [] n h = refl
same_picked first second g [] (t ∷ ts) n h = absurd (omega arith)
same_picked first second g (u ∷ us) [] n h = absurd (omega arith)
same_picked first second g (u ∷ us) (t ∷ ts) n h =
    let here : filter (λ path. first (g ∷ path)) (leaf_paths u) ≡ filter (λ path. second (g ∷ path)) (leaf_paths t) =
    ap (λ k. filter (λ path. first (k ∷ path)) (leaf_paths u)) (at_zero g) ∙ h 0 u t refl refl ∙ ap (λ k. filter (λ path. second (k ∷ path)) (leaf_paths t)) (sym (at_zero g)) in
    let rest : picked first leaf_paths (g + 1) us ≡ picked second leaf_paths (g + 1) ts = same_picked first second (g + 1) us ts (omega arith)
    (λ k v w at at'. ap (λ m. filter (λ path. first (m ∷ path)) (leaf_paths v)) (behind g k) ∙ h (suc k) v w at at' ∙ ap (λ m. filter (λ path. second (m ∷ path)) (leaf_paths w)) (sym (behind g k))) in
    picked-cons first leaf_paths g u us ∙ (λ i. map (λ path. g ∷ path) (here i) ++ rest i) ∙ sym (picked-cons second leaf_paths g t ts)
  where
    at_zero : (g : ℕ) → g ≡ g + 0
    at_zero g = omega arith

    behind : (g k : ℕ) → g + 1 + k ≡ g + suc k
    behind g k = omega arith

no_path : (test : List ℕ → Bool) (g : ℕ) (paths : List (List ℕ)) → ((path : List ℕ) → test (g ∷ path) ≡ false) → filter (λ path. test (g ∷ path)) paths ≡ []
no_path test g [] h = refl
no_path test g (p ∷ paths) h = (λ i. cond (h p i) (p ∷ filter (λ path. test (g ∷ path)) paths) (filter (λ path. test (g ∷ path)) paths)) ∙ no_path test g paths h

child_at : (leaf : ℕ) (c : CubeValue) (ps : List PointValue) (k : ℕ) (u : Counts) → slice_get (children_of leaf c ps) k ≡ Some u → (k < 8) × (u ≡ counts_of leaf (child c k) ps)
unfolding children_of
child_at leaf c ps k u at =
    let low : k < 8 = omega (arith, slice_get_within (children_of leaf c ps) k u at, eight_children leaf c ps) in
    (low, sym (get_or_from_slice_get (children_of leaf c ps) k u u at) ∙ child_counts leaf c ps k u low)

-- the leaves now that were leaves before are the leaves before that are leaves now, in order
abbrev pub AreStaying : ℕ → CubeValue → List PointValue → List PointValue → Type 0
AreStaying leaf c ps qs = filter (is_leaf_at (counts_of leaf c ps)) (leaf_paths (counts_of leaf c (ps ++ qs))) ≡ filter (is_leaf_at (counts_of leaf c (ps ++ qs))) (leaf_paths (counts_of leaf c ps))

staying_leaf : (leaf : ℕ) (c : CubeValue) (ps qs : List PointValue) → IsLeafHere leaf c ps → AreStaying leaf c ps qs
unfolding children_of
staying_leaf leaf c ps qs s =
    let before : leaf_paths (counts_of leaf c ps) ≡ [] ∷ [] = ap leaf_paths (counts.is_leaf leaf c ps s) ∙ leaf_paths-Leaf _ in
    elim (leaf_or_split leaf c (ps ++ qs)) [
      | inl s' ↦
          ap (filter (is_leaf_at (counts_of leaf c ps))) (ap leaf_paths (counts.is_leaf leaf c (ps ++ qs) s') ∙ leaf_paths-Leaf _)
          ∙ ap (λ b. cond b ([] ∷ []) []) (leaf_here leaf c ps s ∙ sym (leaf_here leaf c (ps ++ qs) s'))
          ∙ ap (filter (is_leaf_at (counts_of leaf c (ps ++ qs)))) (sym before)
      | inr s' ↦
          ap (filter (is_leaf_at (counts_of leaf c ps))) (ap leaf_paths (counts.is_inner leaf c (ps ++ qs) s'.more s'.high) ∙ leaf_paths-Inner _ _)
          ∙ none_below (is_leaf_at (counts_of leaf c ps)) leaf_paths (children_of leaf c (ps ++ qs)) (λ k u at. no_path (is_leaf_at (counts_of leaf c ps)) k (leaf_paths u) (λ path. no_leaf_below leaf c ps k path s))
          ∙ sym (ap (λ b. cond b ([] ∷ []) []) (no_leaf_here leaf c (ps ++ qs) s'))
          ∙ ap (filter (is_leaf_at (counts_of leaf c (ps ++ qs)))) (sym before)
    ]

staying_inner : (leaf : ℕ) (c : CubeValue) (ps qs : List PointValue) → IsSplit leaf c ps → ((k : ℕ) → k < 8 → AreStaying leaf (child c k) ps qs) → AreStaying leaf c ps qs
unfolding children_of
staying_inner leaf c ps qs s h =
    let s' : IsSplit leaf c (ps ++ qs) = still_split leaf c ps qs s in
    ap (filter (is_leaf_at (counts_of leaf c ps))) (ap leaf_paths (counts.is_inner leaf c (ps ++ qs) s'.more s'.high) ∙ leaf_paths-Inner _ _)
    ∙ same_picked (is_leaf_at (counts_of leaf c ps)) (is_leaf_at (counts_of leaf c (ps ++ qs))) 0 (children_of leaf c (ps ++ qs)) (children_of leaf c ps)
    (eight_children leaf c (ps ++ qs) ∙ sym (eight_children leaf c ps))
    (λ k u t at at'.
    let low : k < 8 = (child_at leaf c (ps ++ qs) k u at).0 in
    let here : 0 + k ≡ k = omega arith in
    same_test (λ path. is_leaf_at (counts_of leaf c ps) ((0 + k) ∷ path)) (is_leaf_at (counts_of leaf (child c k) ps)) (leaf_paths u)
    (λ path. ap (λ m. is_leaf_at (counts_of leaf c ps) (m ∷ path)) here ∙ leaf_below leaf c ps k path s low)
    ∙ ap (λ (v : Counts). filter (is_leaf_at (counts_of leaf (child c k) ps)) (leaf_paths v)) (child_at leaf c (ps ++ qs) k u at).1
    ∙ h k low
    ∙ ap (λ (v : Counts). filter (is_leaf_at (counts_of leaf (child c k) (ps ++ qs))) (leaf_paths v)) (sym (child_at leaf c ps k t at').1)
    ∙ sym (same_test (λ path. is_leaf_at (counts_of leaf c (ps ++ qs)) ((0 + k) ∷ path)) (is_leaf_at (counts_of leaf (child c k) (ps ++ qs))) (leaf_paths t)
    (λ path. ap (λ m. is_leaf_at (counts_of leaf c (ps ++ qs)) (m ∷ path)) here ∙ leaf_below leaf c (ps ++ qs) k path s' low)))
    ∙ ap (filter (is_leaf_at (counts_of leaf c (ps ++ qs)))) (sym (ap leaf_paths (counts.is_inner leaf c ps s.more s.high) ∙ leaf_paths-Inner _ _))

pub staying : (depth leaf : ℕ) (c : CubeValue) (ps qs : List PointValue) → c.bits ≤ depth → AreStaying leaf c ps qs
staying zero leaf c ps qs d = staying_leaf leaf c ps qs (inr (omega arith))
staying (suc depth) leaf c ps qs d = elim (leaf_or_split leaf c ps) [
  | inl s ↦ staying_leaf leaf c ps qs s
  | inr s ↦ staying_inner leaf c ps qs s (λ k low. staying depth leaf (child c k) ps qs (omega (arith, s.high)))
]

-- ---- the leaves that a batch splits
-- what was a leaf stays one exactly where it need not split
pub leaf_after : (path : List ℕ) (leaf : ℕ) (c : CubeValue) (ps qs : List PointValue) → is_leaf_at (counts_of leaf c ps) path ≡ true
    → is_leaf_at (counts_of leaf c (ps ++ qs)) path ≡ not (nat_lt 7 (cube_at c path).bits && nat_lt leaf (length (inside (cube_at c path) (ps ++ qs))))
leaf_after [] leaf c ps qs e = elim (leaf_or_split leaf c (ps ++ qs)) [
  | inl s ↦ leaf_here leaf c (ps ++ qs) s ∙ ap not (sym (elim s [ inl few ↦ and_right (nat_lt 7 c.bits) _ (le-ltb leaf _ few) | inr low ↦ ap (λ b. b && nat_lt leaf (length (inside c (ps ++ qs)))) (le-ltb 7 c.bits low) ]))
  | inr s ↦ no_leaf_here leaf c (ps ++ qs) s ∙ ap not (sym (and_from _ _ (lt-ltb 7 c.bits s.high) (lt-ltb leaf _ s.more)))
]
leaf_after (g ∷ path) leaf c ps qs e =
    let b : IsLeafBelowHere leaf c ps g path = below leaf c ps g path e in
    leaf_below leaf c (ps ++ qs) g path (still_split leaf c ps qs b.split) b.octant ∙ leaf_after path leaf (child c g) ps qs b.ends

-- the count of a leaf
leaf_count : (path : List ℕ) (leaf : ℕ) (c : CubeValue) (ps : List PointValue) → is_leaf_at (counts_of leaf c ps) path ≡ true → unwrap_or (count_at (counts_of leaf c ps) path) 0 ≡ length (inside (cube_at c path) ps)
leaf_count path leaf c ps e = one (node_at (counts_of leaf c ps) path) refl
  where
    one : (o : Option NodeValue) → node_at (counts_of leaf c ps) path ≡ o → unwrap_or (option_map (λ (n : NodeValue). n.count) (node_at (counts_of leaf c ps) path)) 0 ≡ length (inside (cube_at c path) ps)
    one None is = absurd (false_true (sym (ap is_leaf is) ∙ e))
    one (Some n) is = ap (λ (o : Option NodeValue). unwrap_or (option_map (λ (v : NodeValue). v.count) o) 0) is ∙ (node_says path leaf c ps n is).count

-- the test of over-full leaves says which leaves are none once the batch is there
pub overfull_test : (path : List ℕ) (leaf : ℕ) (c : CubeValue) (ps qs : List PointValue) → is_leaf_at (counts_of leaf c ps) path ≡ true
    → is_overfull leaf c (counts_of leaf c ps) qs path ≡ not (is_leaf_at (counts_of leaf c (ps ++ qs)) path)
overfull_test path leaf c ps qs e =
    let k : CubeValue = cube_at c path in
    let all : unwrap_or (count_at (counts_of leaf c ps) path) 0 + length (inside k qs) ≡ length (inside k (ps ++ qs)) =
    ap (λ n. n + length (inside k qs)) (leaf_count path leaf c ps e) ∙ sym (ap length (filter-append (contains k) ps qs) ∙ length-append (inside k ps) (inside k qs)) in
    ap (λ n. nat_lt 7 k.bits && nat_lt leaf n) all ∙ sym (ap not (leaf_after path leaf c ps qs e) ∙ twice (nat_lt 7 k.bits && nat_lt leaf (length (inside k (ps ++ qs)))))
  where
    twice : (b : Bool) → not (not b) ≡ b
    twice true = refl
    twice false = refl

same_filter_in : {X : Type 0} (p q r : X → Bool) (xs : List X) → filter (λ x. not (r x)) xs ≡ [] → ((x : X) → r x ≡ true → p x ≡ q x) → filter p xs ≡ filter q xs
same_filter_in p q r [] none each = refl
same_filter_in p q r (x ∷ xs) none each = one (r x) refl none (λ rest. same_filter_in p q r xs rest each)
  where
    not_nil : x ∷ filter (λ y. not (r y)) xs ≡ [] → ⊥
    not_nil e = cc

    one : (b : Bool) → r x ≡ b → cond (not b) (x ∷ filter (λ y. not (r y)) xs) (filter (λ y. not (r y)) xs) ≡ [] → (filter (λ y. not (r y)) xs ≡ [] → filter p xs ≡ filter q xs)
        → cond (p x) (x ∷ filter p xs) (filter p xs) ≡ cond (q x) (x ∷ filter q xs) (filter q xs)
    one false e rest behind = absurd (not_nil rest)
    one true e rest behind = (λ i. cond (each x e i) (x ∷ behind rest i) (behind rest i))

-- the over-full leaves are the leaves that are none once the batch is there
pub overfull_are_split : (leaf : ℕ) (c : CubeValue) (ps qs : List PointValue)
    → overfull leaf c (counts_of leaf c ps) qs ≡ filter (λ path. not (is_leaf_at (counts_of leaf c (ps ++ qs)) path)) (leaf_paths (counts_of leaf c ps))
overfull_are_split leaf c ps qs =
    same_filter_in (is_overfull leaf c (counts_of leaf c ps) qs) (λ path. not (is_leaf_at (counts_of leaf c (ps ++ qs)) path)) (is_leaf_at (counts_of leaf c ps)) (leaf_paths (counts_of leaf c ps))
    (no_new_leaves leaf c ps (counts_of leaf c ps) refl) (λ path e. overfull_test path leaf c ps qs e)

-- ---- by the octree
-- the path of a node is no longer than its cube has bits above 7
pub fits : (path : List ℕ) (leaf : ℕ) (c : CubeValue) (ps : List PointValue) (node : NodeValue) → 7 ≤ c.bits → node_at (counts_of leaf c ps) path ≡ Some node → length path + 7 ≤ c.bits
fits [] leaf c ps node low e = omega arith
fits (g ∷ path) leaf c ps node low e = elim (leaf_or_split leaf c ps) [
  | inl s ↦ absurd (none-some node (sym (none_below_leaf _ _ g path (counts.is_leaf leaf c ps s)) ∙ e))
  | inr s ↦ elim (cases_lt g 8) [
    | inl octant ↦
        let high : 7 < c.bits = s.high in
        omega (arith, high, fits path leaf (child c g) ps node (omega arith) (sym (node_of_child leaf c ps g path s octant) ∙ e))
    | inr past ↦ absurd (none-some node (sym (no_node_of_child leaf c ps g path s past) ∙ e))
  ]
]

-- what is said of counts by levels is said of those of the octree
pub leaf_by_counts : (leaf : ℕ) (c : CubeValue) (ps : List PointValue) (path : List ℕ) → is_leaf_at (counted (octree leaf c ps)) path ≡ true → is_leaf_at (counts_of leaf c ps) path ≡ true
leaf_by_counts leaf c ps path e = sym (ap (λ (t : Counts). is_leaf_at t path) (counted_is leaf c ps)) ∙ e

-- of a list of which all pass, each passes
all_pass : {X : Type 0} (test : X → Bool) (xs : List X) → filter (λ x. not (test x)) xs ≡ [] → AllByRecursion (λ x. test x ≡ true) xs
all_pass test [] none = tt
all_pass {X} test (x ∷ xs) none = one (test x) refl none (λ rest. all_pass test xs rest)
  where
    not_nil : x ∷ filter (λ y. not (test y)) xs ≡ [] → ⊥
    not_nil e = cc

    one : (b : Bool) → test x ≡ b → cond (not b) (x ∷ filter (λ y. not (test y)) xs) (filter (λ y. not (test y)) xs) ≡ []
        → (filter (λ y. not (test y)) xs ≡ [] → AllByRecursion (λ y. test y ≡ true) xs) → AllByRecursion (λ y. test y ≡ true) (x ∷ xs)
    one false e rest behind = absurd (not_nil rest)
    one true e rest behind = (e, behind rest)

pub leaf_paths_stand : (leaf : ℕ) (c : CubeValue) (ps : List PointValue)
    → All (λ path. is_leaf_at (counted (octree leaf c ps)) path ≡ true) (leaf_paths (counted (octree leaf c ps)))
leaf_paths_stand leaf c ps =
    let t : Counts = counted (octree leaf c ps) in
    let none : filter (λ path. not (is_leaf_at t path)) (leaf_paths t) ≡ [] = no_new_leaves leaf c ps t (counted_is leaf c ps) in
    All-from_recursion (λ path. is_leaf_at t path ≡ true) (leaf_paths t) (all_pass (is_leaf_at t) (leaf_paths t) none)

pub leaves_stay : (leaf : ℕ) (c : CubeValue) (ps qs : List PointValue)
    → filter (is_leaf_at (counted (octree leaf c ps))) (leaf_paths (counted (octree leaf c (ps ++ qs)))) ≡ filter (is_leaf_at (counted (octree leaf c (ps ++ qs)))) (leaf_paths (counted (octree leaf c ps)))
leaves_stay leaf c ps qs =
    (λ i. filter (is_leaf_at (counted_is leaf c ps i)) (leaf_paths (counted_is leaf c (ps ++ qs) i))) ∙ staying c.bits leaf c ps qs (omega arith)
    ∙ sym (λ i. filter (is_leaf_at (counted_is leaf c (ps ++ qs) i)) (leaf_paths (counted_is leaf c ps i)))

pub leaves_split : (leaf : ℕ) (c : CubeValue) (ps qs : List PointValue)
    → overfull leaf c (counted (octree leaf c ps)) qs ≡ filter (λ path. not (is_leaf_at (counted (octree leaf c (ps ++ qs))) path)) (leaf_paths (counted (octree leaf c ps)))
leaves_split leaf c ps qs =
    ap (λ (t : Counts). overfull leaf c t qs) (counted_is leaf c ps) ∙ overfull_are_split leaf c ps qs
    ∙ sym (λ i. filter (λ path. not (is_leaf_at (counted_is leaf c (ps ++ qs) i) path)) (leaf_paths (counted_is leaf c ps i)))
