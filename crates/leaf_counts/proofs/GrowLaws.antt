-- A node that grows by a batch, level by level.
use Rattle.std.proofs.Common.{◌≡◌, ◌⊎◌, ℕ, ◌+◌, ◌<◌, ◌≤◌, ◌^◌, inl, inr, Bool, ◌&&◌, not, filter, cond, List, [], ◌∷◌, ◌++◌, map, length, take, drop, get_or, Some, nat_lt, ap, ◌∙◌, sym, refl, subst, arith, slice_get, append_assoc, IsTrue}
use Rattle.std.specs.List.{All}
use Rattle.std.proofs.lemmas.Bool.{lt-ltb, le-ltb, and_right, and_from}
use Rattle.std.proofs.lemmas.List.{append-nil, length-map, length-append, drop-map, drop-drop, get_or-map, map-append, take_more, take_all, length-take-le}
use Rattle.std.proofs.lemmas.List.Elements.{filter-append, filter_passes, All-get_or}
use Rattle.std.proofs.lemmas.Option.{slice_get_read, slice_get_within, get_or_from_slice_get}
use Rattle.std.proofs.Math.Seq.{drop-append_seam}
use Rattle.cube_math.specs.Points.{PointValue}
use Rattle.cube_math.specs.Cubes.{CubeValue, contains, child}
use Rattle.cube_math.proofs.Ways.{cube_at-push}
use Rattle.octree_model.specs.Bags.{IsSameBag}
use Rattle.octree_model.specs.Numbers.{up_to}
use Rattle.octree_model.specs.Octree.{inside, octree}
use Rattle.octree_model.proofs.OctreeLaws.{all_inside}
use Rattle.octree_plain.proofs.Children.{head_of_drop}
use Rattle.octree_model.proofs.ShapeLaws.{few_inside}
use Rattle.leaf_counts.specs.declared.counts.Counts.{Counts, Leaf, Inner}
use Rattle.leaf_counts.specs.declared.growth.Growth.{Growth, Same, New, Each}
use Rattle.leaf_counts.specs.declared.plan.Spill.{Spill}
use Rattle.leaf_counts.specs.declared.progress.Progress.{Progress}
use Rattle.leaf_counts.specs.Growing.{IsGrowing, IsGrown}
use Rattle.leaf_counts.specs.Growths.{grown, grown_each}
use Rattle.leaf_counts.specs.Nodes.{counted, cube_at, is_inner_at, is_leaf_at}
use Rattle.leaf_counts.specs.Overfull.{is_overfull, overfull}
use Rattle.leaf_counts.specs.Paths.{inner_paths, leaf_paths}
use Rattle.leaf_counts.specs.Plans.{new_inner, new_leaves}
use Rattle.leaf_counts.proofs.BagCounts.{same_counts, same_with}
use Rattle.leaf_counts.proofs.CountLaws.{counts_of, counted_is, counts_same, is_leaf, is_inner, IsLeafOf, leaf_of, IsInnerOf, inner_of}
use Rattle.leaf_counts.proofs.GrowthLaws.{grown-Same, grown-New, grown-inner}
use Rattle.leaf_counts.proofs.NewLaws.{all_new_inner, all_new_leaves, leaf_stays_inner, leaf_stays_leaves, new_inner-Inner, new_leaves-Inner, new_inner_child, new_leaves_child, no_new_inner, no_new_leaves}
use Rattle.leaf_counts.proofs.OverfullLaws.{not_overfull, overfull-Leaf, overfull-Inner, overfull_child, child_part, child_counts, eight_children}
use Rattle.leaf_counts.proofs.PathLaws.{picked, next_picked, last_picked, further}
use Rattle.leaf_counts.proofs.SplitLaws.{one_more}

-- ---- the points of both
inside_both : (c : CubeValue) (ps qs : List PointValue) → inside c (ps ++ qs) ≡ inside c ps ++ inside c qs
inside_both c ps qs = filter-append (contains c) ps qs

pub so_many_both : (c : CubeValue) (ps qs part : List PointValue) → inside c qs ≡ part → length (inside c (ps ++ qs)) ≡ length (inside c ps) + length part
so_many_both c ps qs part e = ap length (inside_both c ps qs) ∙ length-append (inside c ps) (inside c qs) ∙ ap (λ (xs : List PointValue). length (inside c ps) + length xs) e

same_after : (leaf : ℕ) (c : CubeValue) (ps qs : List PointValue) → inside c qs ≡ [] → counts_of leaf c (ps ++ qs) ≡ counts_of leaf c ps
same_after leaf c ps qs none = counts_same leaf c (ps ++ qs) ps (inside_both c ps qs ∙ ap (λ (xs : List PointValue). inside c ps ++ xs) none ∙ append-nil (inside c ps))

-- ---- a node that no point meets
pub grown_nothing : (root : CubeValue) (points batch : List PointValue) (leaf : ℕ) (path : List ℕ) (cube : CubeValue) (t : Counts) (part : List PointValue) (spills : List Spill) (p : Progress)
    → IsGrowing root points batch leaf path cube t part spills p.used → part ≡ [] → IsGrown points batch leaf path cube t p p Same
grown_nothing root points batch leaf path cube t part spills p growing none =
    let empty : inside cube batch ≡ [] = growing.within ∙ none in
    let before : t ≡ counts_of leaf cube points = growing.is ∙ counted_is leaf cube points in
    let after : t ≡ counted (octree leaf cube (points ++ batch)) = before ∙ sym (counted_is leaf cube (points ++ batch) ∙ same_after leaf cube points batch empty) in
    let few : overfull leaf cube t batch ≡ [] = not_overfull leaf cube t batch record { points = points; is = growing.is } empty in
    let inner : new_inner t (counted (octree leaf cube (points ++ batch))) ≡ [] = ap (new_inner t) (sym after) ∙ no_new_inner leaf cube points t before in
    let leaves : new_leaves t (counted (octree leaf cube (points ++ batch))) ≡ [] = ap (new_leaves t) (sym after) ∙ no_new_leaves leaf cube points t before in
    record {
      after = grown-Same t ∙ after;
      used = omega (arith, ap length few);
      splits = sym (ap (λ (l : List (List ℕ)). p.splits.items ++ map (λ steps. path ++ steps) l) inner ∙ append-nil p.splits.items);
      leaves = sym (ap (λ (l : List (List ℕ)). p.leaves.items ++ map (λ steps. path ++ steps) l) leaves ∙ append-nil p.leaves.items);
    }

-- ---- a leaf
leaf_before : (root : CubeValue) (points batch : List PointValue) (leaf : ℕ) (path : List ℕ) (cube : CubeValue) (t : Counts) (part : List PointValue) (spills : List Spill) (used n : ℕ)
    → IsGrowing root points batch leaf path cube t part spills used → t ≡ Leaf n → IsLeafOf leaf cube points n
leaf_before root points batch leaf path cube t part spills used n growing is = leaf_of leaf cube points n (sym is ∙ growing.is ∙ counted_is leaf cube points)

pub leaf_with : (root : CubeValue) (points batch : List PointValue) (leaf : ℕ) (path : List ℕ) (cube : CubeValue) (t : Counts) (part : List PointValue) (spills : List Spill) (used n : ℕ)
    → IsGrowing root points batch leaf path cube t part spills used → t ≡ Leaf n → length (inside cube (points ++ batch)) ≡ n + length part
leaf_with root points batch leaf path cube t part spills used n growing is =
    let before : IsLeafOf leaf cube points n = leaf_before root points batch leaf path cube t part spills used n growing is in
    so_many_both cube points batch part growing.within ∙ ap (λ k. k + length part) (sym before.count)

pub grown_leaf : (root : CubeValue) (points batch : List PointValue) (leaf : ℕ) (path : List ℕ) (cube : CubeValue) (t : Counts) (part : List PointValue) (spills : List Spill) (p : Progress) (n : ℕ)
    → IsGrowing root points batch leaf path cube t part spills p.used → t ≡ Leaf n → (n + length part ≤ leaf) ⊎ (cube.bits ≤ 7) → IsGrown points batch leaf path cube t p p (New (Leaf (n + length part)))
grown_leaf root points batch leaf path cube t part spills p n growing is stays =
    let all : length (inside cube (points ++ batch)) ≡ n + length part = leaf_with root points batch leaf path cube t part spills p.used n growing is in
    let after : counted (octree leaf cube (points ++ batch)) ≡ Leaf (n + length part) =
    counted_is leaf cube (points ++ batch) ∙ is_leaf leaf cube (points ++ batch) (elim stays [ inl few ↦ inl (omega arith) | inr low ↦ inr low ]) ∙ ap Leaf all in
    let few : overfull leaf cube t batch ≡ [] = overfull-Leaf leaf cube t n batch is ∙ ap (λ b. cond b ([] ∷ []) []) (elim stays [
      | inl few ↦ and_right (nat_lt 7 cube.bits) _ (le-ltb leaf (n + length (inside cube batch)) (omega (arith, ap length growing.within)))
      | inr low ↦ ap (λ b. b && nat_lt leaf (n + length (inside cube batch))) (le-ltb 7 cube.bits low)
    ]) in
    record {
      after = grown-New (Leaf (n + length part)) t ∙ sym after;
      used = omega (arith, ap length few);
      splits = sym (ap (λ (l : List (List ℕ)). p.splits.items ++ map (λ steps. path ++ steps) l) (leaf_stays_inner t _ n (n + length part) is after) ∙ append-nil p.splits.items);
      leaves = sym (ap (λ (l : List (List ℕ)). p.leaves.items ++ map (λ steps. path ++ steps) l) (leaf_stays_leaves t _ n (n + length part) is after) ∙ append-nil p.leaves.items);
    }

-- a leaf that splits
overfull_itself : (leaf : ℕ) (cube : CubeValue) (t : Counts) (batch part : List PointValue) (n : ℕ) → t ≡ Leaf n → inside cube batch ≡ part → 7 < cube.bits → leaf < n + length part → overfull leaf cube t batch ≡ [] ∷ []
overfull_itself leaf cube t batch part n is within high more =
    overfull-Leaf leaf cube t n batch is
    ∙ ap (λ b. cond b ([] ∷ []) []) (and_from _ _ (lt-ltb 7 cube.bits high) (lt-ltb leaf (n + length (inside cube batch)) (omega (arith, ap length within))))

-- its spill is the next one, and has its points
pub record HasSpill (points : List PointValue) (cube : CubeValue) (spills : List Spill) (used : ℕ) : Type 0 where
  pub there : used < length spills
  pub bag : (spill : Spill) → spill ≡ get_or spills used spill → IsSameBag spill.points.items (inside cube points)

pub next_spill : (root : CubeValue) (points batch : List PointValue) (leaf : ℕ) (path : List ℕ) (cube : CubeValue) (t : Counts) (part : List PointValue) (spills : List Spill) (used n : ℕ)
    → IsGrowing root points batch leaf path cube t part spills used → t ≡ Leaf n → 7 < cube.bits → leaf < n + length part → HasSpill points cube spills used
next_spill root points batch leaf path cube t part spills used n growing is high more =
    let itself : overfull leaf cube t batch ≡ [] ∷ [] = overfull_itself leaf cube t batch part n is growing.within high more in
    let first : (path ++ []) ∷ growing.rest ≡ drop used (map (λ (s : Spill). s.path) spills) =
    sym (drop-map (λ (s : Spill). s.path) used spills ∙ growing.next ∙ ap (λ (l : List (List ℕ)). map (λ steps. path ++ steps) l ++ growing.rest) itself) in
    let head : (used < length (map (λ (s : Spill). s.path) spills)) × ((path ++ []) ≡ get_or (map (λ (s : Spill). s.path) spills) used (path ++ [])) × (growing.rest ≡ drop (used + 1) (map (λ (s : Spill). s.path) spills)) =
    head_of_drop (map (λ (s : Spill). s.path) spills) used (path ++ []) growing.rest first in
    let there : used < length spills = omega (arith, head.0, length-map spills (λ (s : Spill). s.path)) in
    record {
      there = there;
      bag = λ spill at.
          let at_path : spill.path ≡ path = ap (λ (s : Spill). s.path) at ∙ sym (get_or-map (λ (s : Spill). s.path) spills used spill (path ++ []) there) ∙ sym head.1 ∙ append-nil path in
          let P : Spill → Type 0 = λ s. IsSameBag s.points.items (inside (cube_at root s.path) points) in
          let same : IsSameBag spill.points.items (inside (cube_at root spill.path) points) = subst P (sym at) (All-get_or P spills used spill there growing.bags) in
          subst (λ (c : CubeValue). IsSameBag spill.points.items (inside c points)) (ap (cube_at root) at_path ∙ sym growing.at) same;
    }

pub grown_split : (root : CubeValue) (points batch : List PointValue) (leaf : ℕ) (path : List ℕ) (cube : CubeValue) (t : Counts) (part : List PointValue) (spills : List Spill) (old new : Progress) (n : ℕ) (spilled all : List PointValue) (made : Counts)
    → IsGrowing root points batch leaf path cube t part spills old.used → t ≡ Leaf n → 7 < cube.bits → leaf < n + length part → IsSameBag spilled (inside cube points) → all ≡ spilled ++ part → All (λ p. IsTrue (contains cube p)) all
    → made ≡ counted (octree leaf cube all) → new.used ≡ old.used + 1
    → new.splits.items ≡ old.splits.items ++ map (λ steps. path ++ steps) (inner_paths made) → new.leaves.items ≡ old.leaves.items ++ map (λ steps. path ++ steps) (leaf_paths made)
    → IsGrown points batch leaf path cube t old new (New made)
grown_split root points batch leaf path cube t part spills old new n spilled all made growing is high more bag both contained counts used splits leaves =
    let long : length (inside cube (points ++ batch)) ≡ n + length part = leaf_with root points batch leaf path cube t part spills old.used n growing is in
    let whole : inside cube (points ++ batch) ≡ inside cube points ++ part = inside_both cube points batch ∙ ap (λ (xs : List PointValue). inside cube points ++ xs) growing.within in
    let same : IsSameBag (inside cube all) (inside cube (points ++ batch)) =
    subst (λ (xs : List PointValue). IsSameBag xs (inside cube (points ++ batch))) (sym (all_inside cube all contained))
    (subst (λ (ys : List PointValue). IsSameBag all ys) (sym whole) (subst (λ (xs : List PointValue). IsSameBag xs (inside cube points ++ part)) (sym both) (same_with spilled (inside cube points) part bag))) in
    let after : made ≡ counted (octree leaf cube (points ++ batch)) = counts ∙ counted_is leaf cube all ∙ same_counts leaf cube all (points ++ batch) same ∙ sym (counted_is leaf cube (points ++ batch)) in
    let inner : counted (octree leaf cube (points ++ batch)) ≡ Inner (length (inside cube (points ++ batch))) (map (λ g. counts_of leaf (child cube g) (points ++ batch)) (up_to 8)) =
    counted_is leaf cube (points ++ batch) ∙ is_inner leaf cube (points ++ batch) (omega arith) high in
    record {
      after = grown-New made t ∙ after;
      used = used ∙ ap (λ (l : List (List ℕ)). old.used + length l) (sym (overfull_itself leaf cube t batch part n is growing.within high more));
      splits = splits ∙ ap (λ (l : List (List ℕ)). old.splits.items ++ map (λ steps. path ++ steps) l) (ap inner_paths after ∙ sym (all_new_inner t _ n is));
      leaves = leaves ∙ ap (λ (l : List (List ℕ)). old.leaves.items ++ map (λ steps. path ++ steps) l) (ap leaf_paths after ∙ sym (all_new_leaves t _ n _ _ is inner));
    }

-- ---- an inner node, child by child
-- the paths of one child and of those behind it
picked_split : (test : List ℕ → Bool) (paths : Counts → List (List ℕ)) (path path' : List ℕ) (g : ℕ) (ts : List Counts) (u : Counts) (here : List (List ℕ)) → slice_get ts g ≡ Some u → filter (λ steps. test (g ∷ steps)) (paths u) ≡ here → path' ≡ path ++ g ∷ []
    → map (λ steps. path ++ steps) (picked test paths g (drop g ts)) ≡ map (λ steps. path' ++ steps) here ++ map (λ steps. path ++ steps) (picked test paths (g + 1) (drop (g + 1) ts))
picked_split test paths path path' g ts u here at is longer =
    ap (map (λ steps. path ++ steps)) (next_picked test paths g ts u at ∙ ap (λ (l : List (List ℕ)). map (λ steps. g ∷ steps) l ++ picked test paths (g + 1) (drop (g + 1) ts)) is)
    ∙ further path g here (picked test paths (g + 1) (drop (g + 1) ts))
    ∙ ap (λ (p : List ℕ). map (λ steps. p ++ steps) here ++ map (λ steps. path ++ steps) (picked test paths (g + 1) (drop (g + 1) ts))) (sym longer)

-- what was named, with what the children from there on will name
named_on : (test : List ℕ → Bool) (paths : Counts → List (List ℕ)) (path path' : List ℕ) (g : ℕ) (ts : List Counts) (u : Counts) (here now new all : List (List ℕ)) → slice_get ts g ≡ Some u → filter (λ steps. test (g ∷ steps)) (paths u) ≡ here → path' ≡ path ++ g ∷ []
    → new ≡ now ++ map (λ steps. path' ++ steps) here → now ++ map (λ steps. path ++ steps) (picked test paths g (drop g ts)) ≡ all → new ++ map (λ steps. path ++ steps) (picked test paths (g + 1) (drop (g + 1) ts)) ≡ all
named_on test paths path path' g ts u here now new all at is longer named before =
    ap (λ (l : List (List ℕ)). l ++ map (λ steps. path ++ steps) (picked test paths (g + 1) (drop (g + 1) ts))) named ∙ append_assoc now _ _
    ∙ ap (λ (l : List (List ℕ)). now ++ l) (sym (picked_split test paths path path' g ts u here at is longer)) ∙ before

-- the children as they will be
abbrev pub children_after : ℕ → CubeValue → List PointValue → List Counts
children_after leaf cube points = map (λ g. counts_of leaf (child cube g) points) (up_to 8)

-- the children below g are done
pub record IsHalfGrown (points batch : List PointValue) (leaf : ℕ) (path : List ℕ) (cube : CubeValue) (t : Counts) (ts : List Counts) (spills : List Spill) (old now : Progress) (growths : List Growth) (places : List Counts) (g : ℕ) : Type 0 where
  pub long : length growths ≡ g
  pub room : length places ≡ g
  pub rest : List (List ℕ)
  pub next : map (λ spill. spill.path) (drop now.used spills) ≡ map (λ steps. path ++ steps) (picked (is_overfull leaf cube t batch) leaf_paths g (drop g ts)) ++ rest
  pub used : now.used + length (picked (is_overfull leaf cube t batch) leaf_paths g (drop g ts)) ≡ old.used + length (overfull leaf cube t batch)
  pub splits : now.splits.items ++ map (λ steps. path ++ steps) (picked (λ steps. not (is_inner_at t steps)) inner_paths g (drop g (children_after leaf cube (points ++ batch))))
      ≡ old.splits.items ++ map (λ steps. path ++ steps) (new_inner t (counted (octree leaf cube (points ++ batch))))
  pub leaves : now.leaves.items ++ map (λ steps. path ++ steps) (picked (λ steps. not (is_leaf_at t steps)) leaf_paths g (drop g (children_after leaf cube (points ++ batch))))
      ≡ old.leaves.items ++ map (λ steps. path ++ steps) (new_leaves t (counted (octree leaf cube (points ++ batch))))
  pub each : grown_each (map grown growths) (take g ts) places ≡ map (λ k. counts_of leaf (child cube k) (points ++ batch)) (up_to g)

inner_before : (root : CubeValue) (points batch : List PointValue) (leaf : ℕ) (path : List ℕ) (cube : CubeValue) (t : Counts) (part : List PointValue) (spills : List Spill) (used n : ℕ) (ts : List Counts)
    → IsGrowing root points batch leaf path cube t part spills used → t ≡ Inner n ts → IsInnerOf leaf cube points n ts
inner_before root points batch leaf path cube t part spills used n ts growing is = inner_of leaf cube points n ts (sym is ∙ growing.is ∙ counted_is leaf cube points)

pub inner_after : (root : CubeValue) (points batch : List PointValue) (leaf : ℕ) (path : List ℕ) (cube : CubeValue) (t : Counts) (part : List PointValue) (spills : List Spill) (used n : ℕ) (ts : List Counts)
    → IsGrowing root points batch leaf path cube t part spills used → t ≡ Inner n ts → counted (octree leaf cube (points ++ batch)) ≡ Inner (n + length part) (children_after leaf cube (points ++ batch))
inner_after root points batch leaf path cube t part spills used n ts growing is =
    let before : IsInnerOf leaf cube points n ts = inner_before root points batch leaf path cube t part spills used n ts growing is in
    let all : length (inside cube (points ++ batch)) ≡ n + length part = so_many_both cube points batch part growing.within ∙ ap (λ k. k + length part) (sym before.count) in
    counted_is leaf cube (points ++ batch) ∙ is_inner leaf cube (points ++ batch) (omega (arith, before.more, before.count)) before.splits ∙ ap (λ k. Inner k (children_after leaf cube (points ++ batch))) all

pub half_begins : (root : CubeValue) (points batch : List PointValue) (leaf : ℕ) (path : List ℕ) (cube : CubeValue) (t : Counts) (part : List PointValue) (spills : List Spill) (p : Progress) (n : ℕ) (ts : List Counts) (growths : List Growth) (places : List Counts)
    → IsGrowing root points batch leaf path cube t part spills p.used → t ≡ Inner n ts → growths ≡ [] → places ≡ [] → IsHalfGrown points batch leaf path cube t ts spills p p growths places 0
half_begins root points batch leaf path cube t part spills p n ts growths places growing is none free =
    let inner : counted (octree leaf cube (points ++ batch)) ≡ Inner (n + length part) (children_after leaf cube (points ++ batch)) = inner_after root points batch leaf path cube t part spills p.used n ts growing is in
    record {
      long = ap length none;
      room = ap length free;
      rest = growing.rest;
      next = growing.next ∙ ap (λ (l : List (List ℕ)). map (λ steps. path ++ steps) l ++ growing.rest) (overfull-Inner leaf cube t n ts batch is);
      used = ap (λ (l : List (List ℕ)). p.used + length l) (sym (overfull-Inner leaf cube t n ts batch is));
      splits = ap (λ (l : List (List ℕ)). p.splits.items ++ map (λ steps. path ++ steps) l) (sym (new_inner-Inner t _ n _ ts _ is inner));
      leaves = ap (λ (l : List (List ℕ)). p.leaves.items ++ map (λ steps. path ++ steps) l) (sym (new_leaves-Inner t _ _ _ inner));
      each = λ i. grown_each (map grown (none i)) [] (free i);
    }

-- the child g meets the points and the batch as the node does
pub child_growing : (root : CubeValue) (points batch : List PointValue) (leaf : ℕ) (path path' : List ℕ) (cube cube' : CubeValue) (t : Counts) (part part' : List PointValue) (spills : List Spill) (old now : Progress) (n : ℕ) (ts : List Counts) (growths : List Growth) (places : List Counts) (g : ℕ) (u : Counts)
    → IsGrowing root points batch leaf path cube t part spills old.used → t ≡ Inner n ts → IsHalfGrown points batch leaf path cube t ts spills old now growths places g
    → slice_get ts g ≡ Some u → path' ≡ path ++ g ∷ [] → cube' ≡ child cube g → part' ≡ inside (child cube g) part
    → IsGrowing root points batch leaf path' cube' u part' spills now.used
child_growing root points batch leaf path path' cube cube' t part part' spills old now n ts growths places g u growing is half at longer smaller within =
    let before : IsInnerOf leaf cube points n ts = inner_before root points batch leaf path cube t part spills old.used n ts growing is in
    let low : g < 8 = omega (arith, slice_get_within ts g u at, ap length before.below, eight_children leaf cube points) in
    let here : filter (λ steps. is_overfull leaf cube t batch (g ∷ steps)) (leaf_paths u) ≡ overfull leaf cube' u batch =
    overfull_child leaf cube t n ts batch g u is at ∙ ap (λ (c : CubeValue). overfull leaf c u batch) (sym smaller) in
    record {
      at = smaller ∙ ap (λ (c : CubeValue). child c g) growing.at ∙ sym (cube_at-push root path g) ∙ ap (cube_at root) (sym longer);
      is = sym (get_or_from_slice_get ts g u u at) ∙ ap (λ (us : List Counts). get_or us g u) before.below ∙ child_counts leaf cube points g u low ∙ sym (counted_is leaf (child cube g) points)
          ∙ ap (λ (c : CubeValue). counted (octree leaf c points)) (sym smaller);
      within = child_part cube cube' g batch part (omega (arith, before.splits)) low smaller growing.within ∙ sym within;
      few = growing.few;
      bags = growing.bags;
      rest = map (λ steps. path ++ steps) (picked (is_overfull leaf cube t batch) leaf_paths (g + 1) (drop (g + 1) ts)) ++ half.rest;
      next = half.next ∙ ap (λ (l : List (List ℕ)). l ++ half.rest) (picked_split (is_overfull leaf cube t batch) leaf_paths path path' g ts u (overfull leaf cube' u batch) at here longer) ∙ append_assoc _ _ half.rest;
    }

-- one change more
each_more : (fs : List (Counts → Counts)) (ts places : List Counts) (f : Counts → Counts) (t place : Counts) → length fs ≡ length ts → length places ≡ length ts
    → grown_each (fs ++ f ∷ []) (ts ++ t ∷ []) (places ++ place ∷ []) ≡ grown_each fs ts places ++ f t ∷ []
each_more [] [] [] f t place e k = refl
each_more [] [] (p ∷ ps) f t place e k = absurd (omega arith)
each_more [] (u ∷ us) places f t place e k = absurd (omega arith)
each_more (h ∷ hs) [] places f t place e k = absurd (omega arith)
each_more (h ∷ hs) (u ∷ us) [] f t place e k = absurd (omega arith)
each_more (h ∷ hs) (u ∷ us) (p ∷ ps) f t place e k = ap (λ (l : List Counts). h u ∷ l) (each_more hs us ps f t place (omega arith) (omega arith))

pub half_goes_on : (root : CubeValue) (points batch : List PointValue) (leaf : ℕ) (path path' : List ℕ) (cube cube' : CubeValue) (t : Counts) (part : List PointValue) (spills : List Spill) (old now new : Progress) (n : ℕ) (ts : List Counts) (growths growths' : List Growth) (places places' : List Counts) (g : ℕ) (u : Counts) (growth : Growth) (place : Counts)
    → IsGrowing root points batch leaf path cube t part spills old.used → t ≡ Inner n ts → IsHalfGrown points batch leaf path cube t ts spills old now growths places g
    → slice_get ts g ≡ Some u → path' ≡ path ++ g ∷ [] → cube' ≡ child cube g → IsGrown points batch leaf path' cube' u now new growth → growths' ≡ growths ++ growth ∷ [] → places' ≡ places ++ place ∷ []
    → IsHalfGrown points batch leaf path cube t ts spills old new growths' places' (g + 1)
half_goes_on root points batch leaf path path' cube cube' t part spills old now new n ts growths growths' places places' g u growth place growing is half at longer smaller done pushed kept =
    let before : IsInnerOf leaf cube points n ts = inner_before root points batch leaf path cube t part spills old.used n ts growing is in
    let there : g < length ts = slice_get_within ts g u at in
    let low : g < 8 = omega (arith, there, ap length before.below, eight_children leaf cube points) in
    let over : List ℕ → Bool = is_overfull leaf cube t batch in
    let named : List (List ℕ) = overfull leaf cube' u batch in
    let here : filter (λ steps. over (g ∷ steps)) (leaf_paths u) ≡ named = overfull_child leaf cube t n ts batch g u is at ∙ ap (λ (c : CubeValue). overfull leaf c u batch) (sym smaller) in
    let apart : map (λ steps. path ++ steps) (picked over leaf_paths g (drop g ts)) ≡ map (λ steps. path' ++ steps) named ++ map (λ steps. path ++ steps) (picked over leaf_paths (g + 1) (drop (g + 1) ts)) =
    picked_split over leaf_paths path path' g ts u named at here longer in
    let lengths : length (picked over leaf_paths g (drop g ts)) ≡ length named + length (picked over leaf_paths (g + 1) (drop (g + 1) ts)) =
    sym (length-map (picked over leaf_paths g (drop g ts)) (λ steps. path ++ steps)) ∙ ap length apart ∙ length-append (map (λ steps. path' ++ steps) named) _
    ∙ (λ i. length-map named (λ steps. path' ++ steps) i + length-map (picked over leaf_paths (g + 1) (drop (g + 1) ts)) (λ steps. path ++ steps) i) in
    let us : List Counts = children_after leaf cube (points ++ batch) in
    let v : Counts = counts_of leaf (child cube g) (points ++ batch) in
    let at_after : slice_get us g ≡ Some v =
    slice_get_read us (length us) g v refl (omega (arith, low, eight_children leaf cube (points ++ batch))) (sym (child_counts leaf cube (points ++ batch) g v low)) in
    let child_is : counted (octree leaf cube' (points ++ batch)) ≡ v = ap (λ (c : CubeValue). counted (octree leaf c (points ++ batch))) smaller ∙ counted_is leaf (child cube g) (points ++ batch) in
    let left : map (λ (s : Spill). s.path) (drop new.used spills) ≡ map (λ steps. path ++ steps) (picked over leaf_paths (g + 1) (drop (g + 1) ts)) ++ half.rest =
    ap (λ k. map (λ (s : Spill). s.path) (drop k spills)) done.used ∙ ap (map (λ (s : Spill). s.path)) (sym (drop-drop (length named) now.used spills))
    ∙ sym (drop-map (λ (s : Spill). s.path) (length named) (drop now.used spills)) ∙ ap (drop (length named)) (half.next ∙ ap (λ (l : List (List ℕ)). l ++ half.rest) apart ∙ append_assoc (map (λ steps. path' ++ steps) named) _ half.rest)
    ∙ ap (λ k. drop k (map (λ steps. path' ++ steps) named ++ (map (λ steps. path ++ steps) (picked over leaf_paths (g + 1) (drop (g + 1) ts)) ++ half.rest))) (sym (length-map named (λ steps. path' ++ steps)))
    ∙ drop-append_seam (map (λ steps. path' ++ steps) named) _ in
    record {
      long = ap length pushed ∙ length-append growths (growth ∷ []) ∙ ap (λ k. k + 1) half.long;
      room = ap length kept ∙ length-append places (place ∷ []) ∙ ap (λ k. k + 1) half.room;
      rest = half.rest;
      next = left;
      used = omega (arith, half.used, done.used, lengths);
      splits = named_on (λ steps. not (is_inner_at t steps)) inner_paths path path' g us v (new_inner u v) now.splits.items new.splits.items _ at_after (new_inner_child t n g ts u v is at) longer
          (done.splits ∙ ap (λ (w : Counts). now.splits.items ++ map (λ steps. path' ++ steps) (new_inner u w)) child_is) half.splits;
      leaves = named_on (λ steps. not (is_leaf_at t steps)) leaf_paths path path' g us v (new_leaves u v) now.leaves.items new.leaves.items _ at_after (new_leaves_child t n g ts u v is at) longer
          (done.leaves ∙ ap (λ (w : Counts). now.leaves.items ++ map (λ steps. path' ++ steps) (new_leaves u w)) child_is) half.leaves;
      each = one_more (λ k. counts_of leaf (child cube k) (points ++ batch)) g _ _ (grown growth u) half.each
          ((λ i. grown_each (map grown (pushed i)) ((take_more ts g u there ∙ ap (λ (x : Counts). take g ts ++ x ∷ []) (get_or_from_slice_get ts g u u at)) i) (kept i))
          ∙ ap (λ (fs : List (Counts → Counts)). grown_each fs (take g ts ++ u ∷ []) (places ++ place ∷ [])) (map-append grown growths (growth ∷ []))
          ∙ each_more (map grown growths) (take g ts) places (grown growth) u place (length-map growths grown ∙ half.long ∙ sym (length-take-le g ts (omega arith))) (half.room ∙ sym (length-take-le g ts (omega arith))))
          (done.after ∙ child_is);
    }

-- all children are done
pub grown_whole : (root : CubeValue) (points batch : List PointValue) (leaf : ℕ) (path : List ℕ) (cube : CubeValue) (t : Counts) (part : List PointValue) (spills : List Spill) (old now : Progress) (n m : ℕ) (ts : List Counts) (growths growths' : List Growth) (places places' : List Counts) (g : ℕ)
    → IsGrowing root points batch leaf path cube t part spills old.used → t ≡ Inner n ts → IsHalfGrown points batch leaf path cube t ts spills old now growths places g → length ts ≤ g → g ≤ 8 → m ≡ n + length part → growths' ≡ growths → places' ≡ places
    → IsGrown points batch leaf path cube t old now (Each m growths' places')
grown_whole root points batch leaf path cube t part spills old now n m ts growths growths' places places' g growing is half end most count same kept =
    let before : IsInnerOf leaf cube points n ts = inner_before root points batch leaf path cube t part spills old.used n ts growing is in
    let inner : counted (octree leaf cube (points ++ batch)) ≡ Inner (n + length part) (children_after leaf cube (points ++ batch)) = inner_after root points batch leaf path cube t part spills old.used n ts growing is in
    let eight : length ts ≡ 8 = ap length before.below ∙ eight_children leaf cube points in
    let last : g ≡ 8 = omega (arith, eight, end, most) in
    let us : List Counts = children_after leaf cube (points ++ batch) in
    let past : length us ≤ g = omega (arith, eight_children leaf cube (points ++ batch), last) in
    let made : grown_each (map grown growths) ts places ≡ us =
    ap (λ (l : List Counts). grown_each (map grown growths) l places) (sym (take_all g ts end)) ∙ half.each ∙ ap (λ k. map (λ k. counts_of leaf (child cube k) (points ++ batch)) (up_to k)) last in
    record {
      after = ap (grown (Each m growths' places')) is ∙ grown-inner m n growths' ts places' ∙ (λ i. Inner (count i) (grown_each (map grown (same i)) ts (kept i))) ∙ ap (Inner (n + length part)) made ∙ sym inner;
      used = omega (arith, half.used, ap length (last_picked (is_overfull leaf cube t batch) leaf_paths g ts end));
      splits = sym (append-nil now.splits.items) ∙ ap (λ (l : List (List ℕ)). now.splits.items ++ map (λ steps. path ++ steps) l) (sym (last_picked (λ steps. not (is_inner_at t steps)) inner_paths g us past)) ∙ half.splits;
      leaves = sym (append-nil now.leaves.items) ∙ ap (λ (l : List (List ℕ)). now.leaves.items ++ map (λ steps. path ++ steps) l) (sym (last_picked (λ steps. not (is_leaf_at t steps)) leaf_paths g us past)) ∙ half.leaves;
    }

-- ---- numbers that fit
pub part_contained : (root : CubeValue) (points batch : List PointValue) (leaf : ℕ) (path : List ℕ) (cube : CubeValue) (t : Counts) (part : List PointValue) (spills : List Spill) (used : ℕ)
    → IsGrowing root points batch leaf path cube t part spills used → All (λ p. IsTrue (contains cube p)) part
part_contained root points batch leaf path cube t part spills used growing = subst (λ (ps : List PointValue). All (λ p. IsTrue (contains cube p)) ps) growing.within (filter_passes (contains cube) batch)

pub leaf_fits : (root : CubeValue) (points batch : List PointValue) (leaf : ℕ) (path : List ℕ) (cube : CubeValue) (t : Counts) (part : List PointValue) (spills : List Spill) (used n : ℕ)
    → IsGrowing root points batch leaf path cube t part spills used → t ≡ Leaf n → n + length part < 2 ^ 32
leaf_fits root points batch leaf path cube t part spills used n growing is =
    let before : IsLeafOf leaf cube points n = leaf_before root points batch leaf path cube t part spills used n growing is in
    omega (arith, before.count, few_inside cube points, few_inside cube batch, ap length growing.within, growing.few)

pub inner_fits : (root : CubeValue) (points batch : List PointValue) (leaf : ℕ) (path : List ℕ) (cube : CubeValue) (t : Counts) (part : List PointValue) (spills : List Spill) (used n : ℕ) (ts : List Counts)
    → IsGrowing root points batch leaf path cube t part spills used → t ≡ Inner n ts → n + length part < 2 ^ 32
inner_fits root points batch leaf path cube t part spills used n ts growing is =
    let before : IsInnerOf leaf cube points n ts = inner_before root points batch leaf path cube t part spills used n ts growing is in
    omega (arith, before.count, few_inside cube points, few_inside cube batch, ap length growing.within, growing.few)

pub record IsInnerNode (cube : CubeValue) (ts : List Counts) : Type 0 where
  pub splits : 7 < cube.bits
  pub eight : length ts ≡ 8

pub inner_node : (root : CubeValue) (points batch : List PointValue) (leaf : ℕ) (path : List ℕ) (cube : CubeValue) (t : Counts) (part : List PointValue) (spills : List Spill) (used n : ℕ) (ts : List Counts)
    → IsGrowing root points batch leaf path cube t part spills used → t ≡ Inner n ts → IsInnerNode cube ts
inner_node root points batch leaf path cube t part spills used n ts growing is =
    let before : IsInnerOf leaf cube points n ts = inner_before root points batch leaf path cube t part spills used n ts growing is in
    record { splits = before.splits; eight = ap length before.below ∙ eight_children leaf cube points }
