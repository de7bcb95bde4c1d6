-- The cut of an outline: what a walk over the outline keeps is the cut, and it leads to each leaf once.
use Rattle.std.proofs.Common.{◌≡◌, ℕ, zero, suc, ◌+◌, ◌-◌, ◌<◌, ◌≤◌, Bool, true, false, not, ◌&&◌, ◌||◌, cond, List, [], ◌∷◌, ◌++◌, map, length, count_by, Option, Some, None, inl, inr, refl, ap, ◌∙◌, sym, subst, arith, append_assoc, pos}
use Rattle.std.specs.List.{AllByRecursion, filter, list_any}
use Rattle.std.proofs.lemmas.List.Sums.{sum_by-cons}
use Rattle.std.proofs.lemmas.Bool.{and_parts, cases_lt, le-leb, lt-leb, le-ltb, lt-ltb}
use Rattle.std.proofs.lemmas.List.{append-nil, length_push}
use Rattle.std.proofs.lemmas.List.Elements.{filter-append, All-from_recursion}
use Rattle.std.proofs.lemmas.List.Folds.{list_any-append}
use Rattle.cube_math.specs.Points.{PointValue}
use Rattle.cube_math.specs.Cubes.{CubeValue, child}
use Rattle.picture_model.specs.Cameras.{CameraValue, Triple, refines}
use Rattle.octree_model.specs.Numbers.{up_to}
use Rattle.octree_model.specs.Voxels.{voxels}
use Rattle.octree_model.specs.Octree.{inside, octree, octree_at}
use Rattle.picture_model.specs.Cuts.{begins, is_above, is_before, in_path_order, opens, hides, in_cut, cut}
use Rattle.octree_model.specs.Outlines.{OutlineAt, children_outline, outline, outline_at}
pub use Rattle.octree_model.proofs.OutlineLaws.{leaf_outline, inner_outline, outline_at-Leaf, outline_at-Inner}
use Rattle.octree_model.specs.declared.tree.Tree.{Tree}
use Rattle.octree_model.specs.declared.tree.Tree.TheVariants.{Leaf, Inner}
use Rattle.octree_model.specs.declared.tree.InnerNode.{InnerNode}
use Rattle.octree_model.specs.declared.outline.OutlineNode.{OutlineNode}
use Rattle.camera_cut.specs.Walks.{is_longer}
use Rattle.camera_cut.specs.Outlines.{IsOutline, LeadToEachLeaf}
use Rattle.camera_cut.proofs.Lists.{each-append, each_weaker, each-filter, filter_none, any_none, count-append, count_none}
use Rattle.camera_cut.proofs.OrderLaws.{Ordered, ordered-append, ordered-filter, in_order}
use Rattle.camera_cut.proofs.PathLaws.{beyond, begins_self, begins-beyond, beyond-less, beyond_before, octant_before, beyond-begins, beyond_longer, apart, apart_back, not_above, not_above_root, above_beyond}

-- what is shown of a list of nodes, where those with longer paths than the last shown one lie below it
abbrev pub walk : CameraValue → Option ℕ → List OutlineNode → List OutlineNode
walk c last [] = []
walk c last (n ∷ ns) =
    cond (is_longer last (length n.path)) (walk c last ns) (cond (opens c n) (walk c None ns) (n ∷ walk c (Some (length n.path)) ns))

-- paths of length k are not taken for longer ones
abbrev pub Lets : Option ℕ → ℕ → Type 0
Lets None k = Unit {0}
Lets (Some m) k = k ≤ m

lets_pass : (last : Option ℕ) (k : ℕ) → Lets last k → is_longer last k ≡ false
lets_pass None k h = refl
lets_pass (Some m) k h = le-ltb m k h

lets_less : (last : Option ℕ) (k m : ℕ) → m ≤ k → Lets last k → Lets last m
lets_less None k m l h = tt
lets_less (Some n) k m l h = omega arith

-- longer ones are passed over
skipped : (c : CameraValue) (k : ℕ) (ns rest : List OutlineNode) → AllByRecursion (λ n. k < length n.path) ns → walk c (Some k) (ns ++ rest) ≡ walk c (Some k) rest
skipped c k [] rest h = refl
skipped c k (n ∷ ns) rest h = rw (lt-ltb k (length n.path) h.0) (skipped c k ns rest h.1)

-- the test of the cut, of nodes that some others hide besides
abbrev pub kept : CameraValue → (OutlineNode → Bool) → List OutlineNode → OutlineNode → Bool
kept c hidden ns n = not (hidden n || list_any (hides c n) ns) && not (opens c n)

-- how a walk goes over nodes, and what it shows of them
pub record Walked (c : CameraValue) (last : Option ℕ) (k : ℕ) (ns shown rest : List OutlineNode) : Type 0 where
  pub after : Option ℕ
  pub lets : Lets after k
  pub is : walk c last (ns ++ rest) ≡ shown ++ walk c after rest

abbrev pub LeadsTo : List OutlineNode → OutlineNode → Type 0
LeadsTo shown leaf = leaf.inner ≡ false → count_by (λ (n : OutlineNode). begins n.path leaf.path) shown ≡ 1

pub record HasCut (c : CameraValue) (k : ℕ) (ns shown : List OutlineNode) : Type 0 where
  pub walked : (last : Option ℕ) (rest : List OutlineNode) → Lets last k → Walked c last k ns shown rest
  pub counted : AllByRecursion (LeadsTo shown) ns

-- an outline whose nodes begin with the root's path and stand in path order, and that has its cut
pub record Part (c : CameraValue) (f : OutlineAt) : Type 0 where
  pub starts : (path : List ℕ) (cube : CubeValue) → AllByRecursion (λ n. begins path n.path ≡ true) (f path cube)
  pub ordered : (path : List ℕ) (cube : CubeValue) → Ordered (f path cube)
  pub cuts : (path : List ℕ) (cube : CubeValue) (hidden : OutlineNode → Bool) → ((n : OutlineNode) → begins path n.path ≡ true → hidden n ≡ false)
      → HasCut c (length path) (f path cube) (filter (kept c hidden (f path cube)) (f path cube))

pub children_beyond : (c : CameraValue) (fs : List OutlineAt) → AllByRecursion (Part c) fs → (path : List ℕ) (cube : CubeValue) (g : ℕ) → AllByRecursion (λ n. beyond path g n.path ≡ true) (children_outline path cube g fs)
children_beyond c [] h path cube g = tt
children_beyond c (f ∷ fs) h path cube g =
    let part : Part c f = h.0 in
    each-append (λ (n : OutlineNode). beyond path g n.path ≡ true) (f (path ++ g ∷ []) (child cube g)) (children_outline path cube (g + 1) fs)
    (each_weaker (λ (n : OutlineNode). begins (path ++ g ∷ []) n.path ≡ true) (λ (n : OutlineNode). beyond path g n.path ≡ true) (λ n. begins-beyond path g n.path) _ (part.starts (path ++ g ∷ []) (child cube g)))
    (each_weaker (λ (n : OutlineNode). beyond path (g + 1) n.path ≡ true) (λ (n : OutlineNode). beyond path g n.path ≡ true) (λ n. beyond-less path g n.path) _ (children_beyond c fs h.1 path cube (g + 1)))

children_ordered : (c : CameraValue) (fs : List OutlineAt) → AllByRecursion (Part c) fs → (path : List ℕ) (cube : CubeValue) (g : ℕ) → Ordered (children_outline path cube g fs)
children_ordered c [] h path cube g = tt
children_ordered c (f ∷ fs) h path cube g =
    let part : Part c f = h.0 in
    let here : List ℕ = path ++ g ∷ [] in
    let ys : List OutlineNode = children_outline path cube (g + 1) fs in
    let past : AllByRecursion (λ (n : OutlineNode). beyond path (g + 1) n.path ≡ true) ys = children_beyond c fs h.1 path cube (g + 1) in
    ordered-append (f here (child cube g)) ys (part.ordered here (child cube g)) (children_ordered c fs h.1 path cube (g + 1))
    (each_weaker (λ (n : OutlineNode). begins here n.path ≡ true) (λ (n : OutlineNode). AllByRecursion (λ (m : OutlineNode). is_before n.path m.path ≡ true) ys)
    (λ n e. each_weaker (λ (m : OutlineNode). beyond path (g + 1) m.path ≡ true) (λ (m : OutlineNode). is_before n.path m.path ≡ true) (λ m b. octant_before path g n.path m.path e b) ys past)
    (f here (child cube g)) (part.starts here (child cube g)))

-- two groups of nodes, each of which the other one hides besides
or_swap : (a b d e : Bool) → (not (a || (b || d)) && e ≡ not ((a || d) || b) && e) × (not (a || (b || d)) && e ≡ not ((a || b) || d) && e)
or_swap true b d e = (refl, refl)
or_swap false true true e = (refl, refl)
or_swap false true false e = (refl, refl)
or_swap false false true e = (refl, refl)
or_swap false false false e = (refl, refl)

pub kept_left : (c : CameraValue) (hidden : OutlineNode → Bool) (xs ys : List OutlineNode) (n : OutlineNode)
    → kept c hidden (xs ++ ys) n ≡ kept c (λ m. hidden m || list_any (hides c m) ys) xs n
kept_left c hidden xs ys n =
    ap (λ b. not (hidden n || b) && not (opens c n)) (list_any-append (hides c n) xs ys)
    ∙ (or_swap (hidden n) (list_any (hides c n) xs) (list_any (hides c n) ys) (not (opens c n))).0

pub kept_right : (c : CameraValue) (hidden : OutlineNode → Bool) (xs ys : List OutlineNode) (n : OutlineNode)
    → kept c hidden (xs ++ ys) n ≡ kept c (λ m. hidden m || list_any (hides c m) xs) ys n
kept_right c hidden xs ys n =
    ap (λ b. not (hidden n || b) && not (opens c n)) (list_any-append (hides c n) xs ys)
    ∙ (or_swap (hidden n) (list_any (hides c n) xs) (list_any (hides c n) ys) (not (opens c n))).1

split : (c : CameraValue) (hidden : OutlineNode → Bool) (xs ys : List OutlineNode)
    → filter (kept c hidden (xs ++ ys)) (xs ++ ys) ≡ filter (kept c (λ n. hidden n || list_any (hides c n) ys) xs) xs ++ filter (kept c (λ n. hidden n || list_any (hides c n) xs) ys) ys
split c hidden xs ys =
    filter-append (kept c hidden (xs ++ ys)) xs ys ∙ (λ i. filter (λ n. kept_left c hidden xs ys n i) xs ++ filter (λ n. kept_right c hidden xs ys n i) ys)

-- nodes that are not above a node do not hide it
no_hide : (c : CameraValue) (n : OutlineNode) (ms : List OutlineNode) → AllByRecursion (λ m. is_above m.path n.path ≡ false) ms → list_any (hides c n) ms ≡ false
no_hide c n ms h = any_none (hides c n) ms (each_weaker (λ (m : OutlineNode). is_above m.path n.path ≡ false) (λ m. hides c n m ≡ false) (λ m e. ap (λ b. b && not (opens c m)) e) ms h)

-- nodes in other octants hide none here
pub later_hide_none : (c : CameraValue) (path : List ℕ) (g : ℕ) (n : OutlineNode) (ys : List OutlineNode) → begins (path ++ g ∷ []) n.path ≡ true
    → AllByRecursion (λ m. beyond path (g + 1) m.path ≡ true) ys → list_any (hides c n) ys ≡ false
later_hide_none c path g n ys b past =
    no_hide c n ys (each_weaker (λ (m : OutlineNode). beyond path (g + 1) m.path ≡ true) (λ (m : OutlineNode). is_above m.path n.path ≡ false) (λ m e. not_above m.path n.path (apart_back path g n.path m.path b e)) ys past)

pub earlier_hide_none : (c : CameraValue) (path : List ℕ) (g : ℕ) (n : OutlineNode) (xs : List OutlineNode) → beyond path (g + 1) n.path ≡ true
    → AllByRecursion (λ m. begins (path ++ g ∷ []) m.path ≡ true) xs → list_any (hides c n) xs ≡ false
earlier_hide_none c path g n xs b below =
    no_hide c n xs (each_weaker (λ (m : OutlineNode). begins (path ++ g ∷ []) m.path ≡ true) (λ (m : OutlineNode). is_above m.path n.path ≡ false) (λ m e. not_above m.path n.path (apart path g m.path n.path e b)) xs below)

pub or_none : (a b : Bool) → a ≡ false → b ≡ false → (a || b) ≡ false
or_none a b p q = rw (p, q) refl

-- shown nodes of another octant lead to none of these leaves
lead_left : (path : List ℕ) (g : ℕ) (us vs : List OutlineNode) → AllByRecursion (λ (n : OutlineNode). beyond path (g + 1) n.path ≡ true) vs
    → (xs : List OutlineNode) → AllByRecursion (λ (n : OutlineNode). begins (path ++ g ∷ []) n.path ≡ true) xs → AllByRecursion (LeadsTo us) xs → AllByRecursion (LeadsTo (us ++ vs)) xs
lead_left path g us vs past [] below h = tt
lead_left path g us vs past (x ∷ xs) below h =
    let none : count_by (λ (n : OutlineNode). begins n.path x.path) vs ≡ 0 =
    count_none (λ (n : OutlineNode). begins n.path x.path) vs (each_weaker (λ (n : OutlineNode). beyond path (g + 1) n.path ≡ true) (λ (n : OutlineNode). begins n.path x.path ≡ false) (λ m e. apart_back path g x.path m.path below.0 e) vs past) in (
      λ leaf. let one : count_by (λ (n : OutlineNode). begins n.path x.path) us ≡ 1 = h.0 leaf in omega (arith, count-append (λ (n : OutlineNode). begins n.path x.path) us vs),
      lead_left path g us vs past xs below.1 h.1,
    )

lead_right : (path : List ℕ) (g : ℕ) (us vs : List OutlineNode) → AllByRecursion (λ (n : OutlineNode). begins (path ++ g ∷ []) n.path ≡ true) us
    → (ys : List OutlineNode) → AllByRecursion (λ (n : OutlineNode). beyond path (g + 1) n.path ≡ true) ys → AllByRecursion (LeadsTo vs) ys → AllByRecursion (LeadsTo (us ++ vs)) ys
lead_right path g us vs below [] past h = tt
lead_right path g us vs below (y ∷ ys) past h =
    let none : count_by (λ (n : OutlineNode). begins n.path y.path) us ≡ 0 =
    count_none (λ (n : OutlineNode). begins n.path y.path) us (each_weaker (λ (n : OutlineNode). begins (path ++ g ∷ []) n.path ≡ true) (λ (n : OutlineNode). begins n.path y.path ≡ false) (λ m e. apart path g m.path y.path e past.0) us below) in (
      λ leaf. let one : count_by (λ (n : OutlineNode). begins n.path y.path) vs ≡ 1 = h.0 leaf in omega (arith, count-append (λ (n : OutlineNode). begins n.path y.path) us vs),
      lead_right path g us vs below ys past.1 h.1,
    )

children_cut : (c : CameraValue) (fs : List OutlineAt) → AllByRecursion (Part c) fs → (path : List ℕ) (cube : CubeValue) (g : ℕ) (hidden : OutlineNode → Bool)
    → ((n : OutlineNode) → beyond path g n.path ≡ true → hidden n ≡ false)
    → HasCut c (length path + 1) (children_outline path cube g fs) (filter (kept c hidden (children_outline path cube g fs)) (children_outline path cube g fs))
children_cut c [] h path cube g hidden none = record { walked = λ last rest lets. record { after = last; lets = lets; is = refl }; counted = tt }
children_cut c (f ∷ fs) h path cube g hidden none =
    let part : Part c f = h.0 in
    let here : List ℕ = path ++ g ∷ [] in
    let xs : List OutlineNode = f here (child cube g) in
    let ys : List OutlineNode = children_outline path cube (g + 1) fs in
    let below : AllByRecursion (λ (n : OutlineNode). begins here n.path ≡ true) xs = part.starts here (child cube g) in
    let past : AllByRecursion (λ (n : OutlineNode). beyond path (g + 1) n.path ≡ true) ys = children_beyond c fs h.1 path cube (g + 1) in
    let by_ys : OutlineNode → Bool = λ n. hidden n || list_any (hides c n) ys in
    let by_xs : OutlineNode → Bool = λ n. hidden n || list_any (hides c n) xs in
    let first : HasCut c (length here) xs (filter (kept c by_ys xs) xs) = part.cuts here (child cube g) by_ys (λ n b.
    or_none (hidden n) (list_any (hides c n) ys) (none n (begins-beyond path g n.path b)) (later_hide_none c path g n ys b past)) in
    let later : HasCut c (length path + 1) ys (filter (kept c by_xs ys) ys) = children_cut c fs h.1 path cube (g + 1) by_xs (λ n b.
    or_none (hidden n) (list_any (hides c n) xs) (none n (beyond-less path g n.path b)) (earlier_hide_none c path g n xs b below)) in
    let us : List OutlineNode = filter (kept c by_ys xs) xs in
    let vs : List OutlineNode = filter (kept c by_xs ys) ys in
    let long : length here ≡ length path + 1 = length_push path g in
    let us_below : AllByRecursion (λ (n : OutlineNode). begins here n.path ≡ true) us = each-filter (λ (n : OutlineNode). begins here n.path ≡ true) (kept c by_ys xs) xs below in
    let vs_past : AllByRecursion (λ (n : OutlineNode). beyond path (g + 1) n.path ≡ true) vs = each-filter (λ (n : OutlineNode). beyond path (g + 1) n.path ≡ true) (kept c by_xs ys) ys past in
    let both : HasCut c (length path + 1) (xs ++ ys) (us ++ vs) = record {
      walked = λ last rest lets.
          let one : Walked c last (length here) xs us (ys ++ rest) = first.walked last (ys ++ rest) (lets_less last (length path + 1) (length here) (omega arith) lets) in
          let two : Walked c one.after (length path + 1) ys vs rest = later.walked one.after rest (lets_less one.after (length here) (length path + 1) (omega arith) one.lets) in
          record {
            after = two.after;
            lets = two.lets;
            is = ap (walk c last) (append_assoc xs ys rest) ∙ one.is ∙ ap (λ (l : List OutlineNode). us ++ l) two.is ∙ sym (append_assoc us vs (walk c two.after rest));
          };
      counted = each-append (LeadsTo (us ++ vs)) xs ys (lead_left path g us vs vs_past xs below first.counted) (lead_right path g us vs us_below ys past later.counted);
    } in
    subst (HasCut c (length path + 1) (xs ++ ys)) (sym (split c hidden xs ys)) both

pub or_true : (a : Bool) → (a || true) ≡ true
or_true true = refl
or_true false = refl

pub and_false : (a : Bool) → (a && false) ≡ false
and_false true = refl
and_false false = refl

count_one : (f : OutlineNode → Bool) (n : OutlineNode) → f n ≡ true → count_by f (n ∷ []) ≡ 1
count_one f n h = sum_by-cons (λ y. cond (f y) 1 0) n [] ∙ rw h refl

-- a node is not hidden by itself and the nodes below it
pub root_unhidden : (c : CameraValue) (r : OutlineNode) (ch : List OutlineNode) → AllByRecursion (λ n. begins r.path n.path ≡ true) (r ∷ ch) → list_any (hides c r) (r ∷ ch) ≡ false
root_unhidden c r ch h =
    no_hide c r (r ∷ ch) (each_weaker (λ (n : OutlineNode). begins r.path n.path ≡ true) (λ (n : OutlineNode). is_above n.path r.path ≡ false) (λ n e. not_above_root r.path n.path e) (r ∷ ch) h)

-- a node that does not open passes the test itself, and hides those below it
pub closed_kept : (c : CameraValue) (hidden : OutlineNode → Bool) (r : OutlineNode) (ch : List OutlineNode) → opens c r ≡ false → hidden r ≡ false
    → AllByRecursion (λ n. begins r.path n.path ≡ true) (r ∷ ch) → kept c hidden (r ∷ ch) r ≡ true
closed_kept c hidden r ch closed none below = ap (λ b. not (hidden r || b) && not (opens c r)) (root_unhidden c r ch below) ∙ rw (none, closed) refl

pub closed_hides : (c : CameraValue) (hidden : OutlineNode → Bool) (r : OutlineNode) (ch : List OutlineNode) → opens c r ≡ false
    → (n : OutlineNode) → beyond r.path 0 n.path ≡ true → kept c hidden (r ∷ ch) n ≡ false
closed_hides c hidden r ch closed n e =
    let hides_it : hides c n r ≡ true = ap (λ b. b && not (opens c r)) (above_beyond r.path 0 n.path e) ∙ rw closed refl in
    ap (λ b. not (hidden n || (b || list_any (hides c n) ch)) && not (opens c n)) hides_it ∙ ap (λ b. not b && not (opens c n)) (or_true (hidden n))

-- a node that opens does not pass, and hides none
pub open_kept : (c : CameraValue) (hidden : OutlineNode → Bool) (r : OutlineNode) (ch : List OutlineNode) → opens c r ≡ true → kept c hidden (r ∷ ch) r ≡ false
open_kept c hidden r ch opened = ap (λ b. not (hidden r || list_any (hides c r) (r ∷ ch)) && not b) opened ∙ and_false (not (hidden r || list_any (hides c r) (r ∷ ch)))

pub open_hides_none : (c : CameraValue) (hidden : OutlineNode → Bool) (r : OutlineNode) (ch : List OutlineNode) → opens c r ≡ true → (n : OutlineNode) → kept c hidden (r ∷ ch) n ≡ kept c hidden ch n
open_hides_none c hidden r ch opened n =
    let no : hides c n r ≡ false = ap (λ b. is_above r.path n.path && not b) opened ∙ and_false (is_above r.path n.path) in
    ap (λ b. not (hidden n || (b || list_any (hides c n) ch)) && not (opens c n)) no

-- a node that does not open is shown, and hides the nodes below it
closed_filter : (c : CameraValue) (hidden : OutlineNode → Bool) (r : OutlineNode) (ch : List OutlineNode) → opens c r ≡ false → hidden r ≡ false
    → AllByRecursion (λ n. beyond r.path 0 n.path ≡ true) ch → AllByRecursion (λ n. begins r.path n.path ≡ true) (r ∷ ch)
    → filter (kept c hidden (r ∷ ch)) (r ∷ ch) ≡ r ∷ []
closed_filter c hidden r ch closed none past below =
    let root : kept c hidden (r ∷ ch) r ≡ true = closed_kept c hidden r ch closed none below in
    let others : filter (kept c hidden (r ∷ ch)) ch ≡ [] = filter_none (kept c hidden (r ∷ ch)) ch (
    each_weaker (λ (n : OutlineNode). beyond r.path 0 n.path ≡ true) (λ (n : OutlineNode). kept c hidden (r ∷ ch) n ≡ false) (closed_hides c hidden r ch closed) ch past) in
    ap (λ b. cond b (r ∷ filter (kept c hidden (r ∷ ch)) ch) (filter (kept c hidden (r ∷ ch)) ch)) root ∙ ap (λ (l : List OutlineNode). r ∷ l) others

closed_cut : (c : CameraValue) (r : OutlineNode) (ch : List OutlineNode) → opens c r ≡ false → AllByRecursion (λ n. beyond r.path 0 n.path ≡ true) ch
    → AllByRecursion (λ n. begins r.path n.path ≡ true) (r ∷ ch) → HasCut c (length r.path) (r ∷ ch) (r ∷ [])
closed_cut c r ch closed past below = record {
  walked = λ last rest lets. record {
    after = Some (length r.path);
    lets = omega arith;
    is = rw (lets_pass last (length r.path) lets, closed) (ap (λ (l : List OutlineNode). r ∷ l) (
        skipped c (length r.path) ch rest (each_weaker (λ (n : OutlineNode). beyond r.path 0 n.path ≡ true) (λ (n : OutlineNode). length r.path < length n.path) (λ n e. beyond_longer r.path 0 n.path e) ch past)));
  };
  counted = each_weaker (λ (n : OutlineNode). begins r.path n.path ≡ true) (LeadsTo (r ∷ [])) (λ n e leaf. count_one (λ (m : OutlineNode). begins m.path n.path) r e) (r ∷ ch) below;
}

-- a node that opens is not shown, and hides nothing
open_filter : (c : CameraValue) (hidden : OutlineNode → Bool) (r : OutlineNode) (ch : List OutlineNode) → opens c r ≡ true
    → filter (kept c hidden (r ∷ ch)) (r ∷ ch) ≡ filter (kept c hidden ch) ch
open_filter c hidden r ch opened =
    let root : kept c hidden (r ∷ ch) r ≡ false = open_kept c hidden r ch opened in
    ap (λ b. cond b (r ∷ filter (kept c hidden (r ∷ ch)) ch) (filter (kept c hidden (r ∷ ch)) ch)) root ∙ (λ i. filter (λ n. open_hides_none c hidden r ch opened n i) ch)

open_cut : (c : CameraValue) (r : OutlineNode) (ch shown : List OutlineNode) → opens c r ≡ true → HasCut c (length r.path + 1) ch shown → HasCut c (length r.path) (r ∷ ch) shown
open_cut c r ch shown opened h = record {
  walked = λ last rest lets.
      let below : Walked c None (length r.path + 1) ch shown rest = h.walked None rest tt in
      record {
        after = below.after;
        lets = lets_less below.after (length r.path + 1) (length r.path) (omega arith) below.lets;
        is = rw (lets_pass last (length r.path) lets, opened) below.is;
      };
  counted = (λ leaf. let inner : r.inner ≡ true = (and_parts r.inner (refines c r.cube) opened).0 in cc, h.counted);
}

-- the two kinds of outlines
pub leaf_part : (c : CameraValue) → Part c leaf_outline
leaf_part c = record {
  starts = λ path cube. (begins_self path, tt);
  ordered = λ path cube. (tt, tt);
  cuts = λ path cube hidden none.
      let r : OutlineNode = record { path = path; cube = cube; inner = false } in
      let below : AllByRecursion (λ (n : OutlineNode). begins r.path n.path ≡ true) (r ∷ []) = (begins_self path, tt) in
      subst (HasCut c (length path) (r ∷ [])) (sym (closed_filter c hidden r [] refl (none r (begins_self path)) tt below)) (closed_cut c r [] refl tt below);
}

inner_cut : (c : CameraValue) (r : OutlineNode) (ch : List OutlineNode) (hidden : OutlineNode → Bool) (b : Bool) → opens c r ≡ b → hidden r ≡ false
    → AllByRecursion (λ n. beyond r.path 0 n.path ≡ true) ch → AllByRecursion (λ n. begins r.path n.path ≡ true) (r ∷ ch)
    → HasCut c (length r.path + 1) ch (filter (kept c hidden ch) ch) → HasCut c (length r.path) (r ∷ ch) (filter (kept c hidden (r ∷ ch)) (r ∷ ch))
inner_cut c r ch hidden true e none past below h =
    subst (HasCut c (length r.path) (r ∷ ch)) (sym (open_filter c hidden r ch e)) (open_cut c r ch (filter (kept c hidden ch) ch) e h)
inner_cut c r ch hidden false e none past below h =
    subst (HasCut c (length r.path) (r ∷ ch)) (sym (closed_filter c hidden r ch e none past below)) (closed_cut c r ch e past below)

pub inner_starts : (c : CameraValue) (fs : List OutlineAt) → AllByRecursion (Part c) fs → (path : List ℕ) (cube : CubeValue) → AllByRecursion (λ n. begins path n.path ≡ true) (inner_outline fs path cube)
inner_starts c fs h path cube = (
  begins_self path,
  each_weaker (λ (n : OutlineNode). beyond path 0 n.path ≡ true) (λ (n : OutlineNode). begins path n.path ≡ true) (λ n e. beyond-begins path 0 n.path e) (children_outline path cube 0 fs) (children_beyond c fs h path cube 0),
)

pub inner_part : (c : CameraValue) (fs : List OutlineAt) → AllByRecursion (Part c) fs → Part c (inner_outline fs)
inner_part c fs h = record {
  starts = inner_starts c fs h;
  ordered = λ path cube. (
    each_weaker (λ (n : OutlineNode). beyond path 0 n.path ≡ true) (λ (n : OutlineNode). is_before path n.path ≡ true) (λ n e. beyond_before path 0 n.path e) (children_outline path cube 0 fs) (children_beyond c fs h path cube 0),
    children_ordered c fs h path cube 0,
  );
  cuts = λ path cube hidden none.
      let r : OutlineNode = record { path = path; cube = cube; inner = true } in
      inner_cut c r (children_outline path cube 0 fs) hidden (opens c r) refl (none r (begins_self path)) (children_beyond c fs h path cube 0) (inner_starts c fs h path cube)
      (children_cut c fs h path cube 0 hidden (λ n b. none n (beyond-begins path 0 n.path b)));
}

tree_parts : (c : CameraValue) (T : ℕ → Tree) → ((g : ℕ) → Part c (outline_at (T g))) → (gs : List ℕ) → AllByRecursion (Part c) (map outline_at (map T gs))
tree_parts c T h [] = tt
tree_parts c T h (g ∷ gs) = (h g, tree_parts c T h gs)

pub tree_part : (c : CameraValue) (leaf depth : ℕ) (cube : CubeValue) (ps : List PointValue) → Part c (outline_at (octree_at leaf depth cube ps))
unfolding octree_at
tree_part c leaf zero cube ps = subst (Part c) (sym (outline_at-Leaf (inside cube ps))) (leaf_part c)
tree_part c leaf (suc depth) cube ps =
    let q : List PointValue = inside cube ps in
    elim (cases_lt leaf (length q)) [
      | inl more ↦
          let node : InnerNode = record { count = length q; voxels = voxels cube q; trees = map (λ g. octree_at leaf depth (child cube g) q) (up_to 8) } in
          rw (lt-leb _ _ more) (subst (Part c) (sym (outline_at-Inner node)) (inner_part c (map outline_at node.trees) (tree_parts c (λ g. octree_at leaf depth (child cube g) q) (λ g. tree_part c leaf depth (child cube g) q) (up_to 8))))
      | inr few ↦ rw (le-leb _ _ few) (subst (Part c) (sym (outline_at-Leaf q)) (leaf_part c))
    ]

outline_part : (c : CameraValue) (nodes : List OutlineNode) (o : IsOutline nodes) → Part c (outline_at o.tree)
outline_part c nodes o = subst (λ (t : Tree). Part c (outline_at t)) (sym o.octree.is) (tree_part c o.octree.leaf (o.cube.bits - 7) o.cube o.octree.points)

-- the nodes that pass a test stand in path order
pub cut_in_order : (c : CameraValue) (nodes : List OutlineNode) → IsOutline nodes → in_path_order (cut c nodes) ≡ true
cut_in_order c nodes o =
    let part : Part c (outline_at o.tree) = outline_part c nodes o in
    let whole : Ordered nodes = subst Ordered (sym o.is) (part.ordered [] o.cube) in
    in_order (cut c nodes) (ordered-filter (in_cut c nodes) nodes whole)

outline_cut : (c : CameraValue) (nodes : List OutlineNode) → IsOutline nodes → HasCut c 0 nodes (cut c nodes)
outline_cut c nodes o =
    let part : Part c (outline_at o.tree) = outline_part c nodes o in
    let whole : HasCut c 0 (outline o.tree o.cube) (cut c (outline o.tree o.cube)) = part.cuts [] o.cube (λ n. false) (λ n b. refl) in
    subst (λ (l : List OutlineNode). HasCut c 0 l (cut c l)) (sym o.is) whole

-- a walk over a whole outline shows the cut
pub walked_cut : (c : CameraValue) (nodes : List OutlineNode) → IsOutline nodes → walk c None nodes ≡ cut c nodes
walked_cut c nodes o =
    let w : Walked c None 0 nodes (cut c nodes) [] = (outline_cut c nodes o).walked None [] tt in
    ap (walk c None) (sym (append-nil nodes)) ∙ w.is ∙ append-nil (cut c nodes)

-- and the cut leads to each leaf once
pub leads_to_leaves : (c : CameraValue) (nodes : List OutlineNode) → IsOutline nodes → LeadToEachLeaf (cut c nodes) nodes
leads_to_leaves c nodes o = All-from_recursion (LeadsTo (cut c nodes)) nodes (outline_cut c nodes o).counted

-- the outline of an octree stands in path order
pub outline_ordered : (leaf : ℕ) (cube : CubeValue) (ps : List PointValue) → Ordered (outline (octree leaf cube ps) cube)
outline_ordered leaf cube ps = (tree_part some_camera leaf (cube.bits - 7) cube ps).ordered [] cube
  where
    origin : Triple
    origin = (pos 0, pos 0, pos 0)

    -- the order is the same by whatever camera
    some_camera : CameraValue
    some_camera = record { eye = origin; right = origin; down = origin; forward = origin; focal = 1; near = 1; width = 1; height = 1; threshold = 1; dot = 1 }
