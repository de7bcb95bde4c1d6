-- The nodes of an octree stand in path order.
use Rattle.std.proofs.Common.{◌≡◌, ℕ, zero, suc, ◌+◌, ◌<◌, ◌≤◌, List, [], ◌∷◌, ◌++◌, map, length, AllPairs, refl, sym, ◌∙◌, subst, inl, inr, arith, append_assoc, append-nil}
use Rattle.std.specs.List.{AllByRecursion}
use Rattle.std.proofs.lemmas.Bool.{cases_lt, eq-eqb, le-leb, le-ltb, lt-leb, lt-ltb}
use Rattle.std.proofs.lemmas.List.Elements.{All-from_recursion}
use Rattle.std.proofs.lemmas.List.Kept.{AllPairs-cons}
use Rattle.cube_math.specs.Cubes.{CubeValue, child}
use Rattle.cube_math.specs.Points.{PointValue}
use Rattle.octree_model.specs.Numbers.{up_to}
use Rattle.octree_model.specs.Octree.{inside, octree, octree_at}
use Rattle.octree_model.specs.Outlines.{OutlineAt, children_outline, outline, outline_at}
use Rattle.octree_model.specs.Voxels.{voxels}
use Rattle.octree_model.specs.declared.outline.OutlineNode.{OutlineNode}
use Rattle.octree_model.specs.declared.tree.InnerNode.{InnerNode}
use Rattle.octree_model.specs.declared.tree.Tree.{Tree}
use Rattle.octree_model.proofs.OutlineLaws.{leaf_outline, inner_outline, outline_at-Leaf, outline_at-Inner}
use Rattle.pinned_version.specs.Pinned.{StandsBefore}

-- a path stands before those that go on from it
before_longer : (p : List ℕ) (g : ℕ) (r : List ℕ) → StandsBefore p (p ++ g ∷ r)
before_longer [] g r = refl
before_longer (a ∷ p) g r = rw (le-ltb a a (omega arith), eq-eqb a a refl) (before_longer p g r)

-- and those that turn into an octant before those that turn into a later one
before_later : (p : List ℕ) (g h : ℕ) (r s : List ℕ) → g < h → StandsBefore (p ++ g ∷ r) (p ++ h ∷ s)
before_later [] g h r s less = rw (lt-ltb g h less) refl
before_later (a ∷ p) g h r s less = rw (le-ltb a a (omega arith), eq-eqb a a refl) (before_later p g h r s less)

-- ---- nodes below a path

-- a node at a path or below it
record IsFrom (path : List ℕ) (n : OutlineNode) : Type 0 where
  pub rest : List ℕ
  pub is : n.path ≡ path ++ rest

-- a node below a path, in octant g or a later one
record IsBelow (path : List ℕ) (g : ℕ) (n : OutlineNode) : Type 0 where
  pub octant : ℕ
  pub rest : List ℕ
  pub from : g ≤ octant
  pub is : n.path ≡ path ++ octant ∷ rest

below_octant : (path : List ℕ) (g : ℕ) (n : OutlineNode) → IsFrom (path ++ g ∷ []) n → IsBelow path g n
below_octant path g n f = record { octant = g; rest = f.rest; from = omega arith; is = f.is ∙ append_assoc path (g ∷ []) f.rest }

below_later : (path : List ℕ) (g : ℕ) (n : OutlineNode) → IsBelow path (g + 1) n → IsBelow path g n
below_later path g n b = record { octant = b.octant; rest = b.rest; from = omega (arith, b.from); is = b.is }

from_below : (path : List ℕ) (g : ℕ) (n : OutlineNode) → IsBelow path g n → IsFrom path n
from_below path g n b = record { rest = b.octant ∷ b.rest; is = b.is }

before_below : (path : List ℕ) (g : ℕ) (n : OutlineNode) → IsBelow path g n → StandsBefore path n.path
before_below path g n b = subst (λ (q : List ℕ). StandsBefore path q) (sym b.is) (before_longer path b.octant b.rest)

octant_before : (path : List ℕ) (g : ℕ) (m n : OutlineNode) → IsFrom (path ++ g ∷ []) m → IsBelow path (g + 1) n → StandsBefore m.path n.path
unfolding below_octant
octant_before path g m n f b =
    let here : IsBelow path g m = below_octant path g m f in
    subst (λ (q : List ℕ). StandsBefore q n.path) (sym here.is)
    (subst (λ (q : List ℕ). StandsBefore (path ++ g ∷ f.rest) q) (sym b.is) (before_later path g b.octant f.rest b.rest (omega (arith, b.from))))

-- ---- facts of each node

each-append : {X : Type 0} (P : X → Type 0) (xs ys : List X) → AllByRecursion P xs → AllByRecursion P ys → AllByRecursion P (xs ++ ys)
each-append P [] ys p q = q
each-append P (x ∷ xs) ys p q = (p.0, each-append P xs ys p.1 q)

each_weaker : {X : Type 0} (P Q : X → Type 0) → ((x : X) → P x → Q x) → (xs : List X) → AllByRecursion P xs → AllByRecursion Q xs
each_weaker P Q h [] p = tt
each_weaker P Q h (x ∷ xs) p = (h x p.0, each_weaker P Q h xs p.1)

-- a node stands before others
abbrev StandsBeforeAll : OutlineNode → List OutlineNode → Type 0
StandsBeforeAll n ns = AllByRecursion (λ (m : OutlineNode). StandsBefore n.path m.path) ns

-- each node stands before all later ones
abbrev Ordered : List OutlineNode → Type 0
Ordered [] = Unit {0}
Ordered (n ∷ ns) = StandsBeforeAll n ns × Ordered ns

ordered-append : (xs ys : List OutlineNode) → Ordered xs → Ordered ys → AllByRecursion (λ (n : OutlineNode). StandsBeforeAll n ys) xs
    → Ordered (xs ++ ys)
ordered-append [] ys p q r = q
ordered-append (x ∷ xs) ys p q r =
    (each-append (λ (m : OutlineNode). StandsBefore x.path m.path) xs ys p.0 r.0, ordered-append xs ys p.1 q r.1)

pub ordered_pairs : (ns : List OutlineNode) → Ordered ns → AllPairs (λ (a b : OutlineNode). StandsBefore a.path b.path) ns
ordered_pairs [] h = λ i j d less within. absurd (none j within)
  where
    none : (j : ℕ) → j < 0 → ⊥
    none j less = omega arith
ordered_pairs (n ∷ ns) h =
    AllPairs-cons (λ (a b : OutlineNode). StandsBefore a.path b.path) n ns
    (All-from_recursion (λ (m : OutlineNode). StandsBefore n.path m.path) ns h.0) (ordered_pairs ns h.1)

-- ---- outlines

-- an outline whose nodes stand at the root's path or below it, in order
record IsOrdered (f : OutlineAt) : Type 0 where
  pub from : (path : List ℕ) (cube : CubeValue) → AllByRecursion (IsFrom path) (f path cube)
  pub ordered : (path : List ℕ) (cube : CubeValue) → Ordered (f path cube)

children_below : (fs : List OutlineAt) → AllByRecursion IsOrdered fs → (path : List ℕ) (cube : CubeValue) (g : ℕ)
    → AllByRecursion (IsBelow path g) (children_outline path cube g fs)
children_below [] h path cube g = tt
children_below (f ∷ fs) h path cube g =
    let part : IsOrdered f = h.0 in
    let here : List ℕ = path ++ g ∷ [] in
    each-append (IsBelow path g) (f here (child cube g)) (children_outline path cube (g + 1) fs)
    (each_weaker (IsFrom here) (IsBelow path g) (below_octant path g) (f here (child cube g)) (part.from here (child cube g)))
    (each_weaker (IsBelow path (g + 1)) (IsBelow path g) (below_later path g) (children_outline path cube (g + 1) fs) (children_below fs h.1 path cube (g + 1)))

children_ordered : (fs : List OutlineAt) → AllByRecursion IsOrdered fs → (path : List ℕ) (cube : CubeValue) (g : ℕ)
    → Ordered (children_outline path cube g fs)
children_ordered [] h path cube g = tt
children_ordered (f ∷ fs) h path cube g =
    let part : IsOrdered f = h.0 in
    let here : List ℕ = path ++ g ∷ [] in
    let later : List OutlineNode = children_outline path cube (g + 1) fs in
    let below : AllByRecursion (IsBelow path (g + 1)) later = children_below fs h.1 path cube (g + 1) in
    ordered-append (f here (child cube g)) later (part.ordered here (child cube g)) (children_ordered fs h.1 path cube (g + 1))
    (each_weaker (IsFrom here) (λ (n : OutlineNode). StandsBeforeAll n later)
    (λ n from. each_weaker (IsBelow path (g + 1)) (λ (m : OutlineNode). StandsBefore n.path m.path) (λ m b. octant_before path g n m from b) later below)
    (f here (child cube g)) (part.from here (child cube g)))

leaf_ordered : IsOrdered leaf_outline
leaf_ordered = record {
  from = λ path cube. (record { rest = []; is = sym (append-nil path) }, tt);
  ordered = λ path cube. (tt, tt);
}

inner_ordered : (fs : List OutlineAt) → AllByRecursion IsOrdered fs → IsOrdered (inner_outline fs)
inner_ordered fs h = record {
  from = λ path cube. (
    record { rest = []; is = sym (append-nil path) },
    each_weaker (IsBelow path 0) (IsFrom path) (from_below path 0) (children_outline path cube 0 fs) (children_below fs h path cube 0),
  );
  ordered = λ path cube. (
    each_weaker (IsBelow path 0) (λ (m : OutlineNode). StandsBefore path m.path) (before_below path 0) (children_outline path cube 0 fs)
        (children_below fs h path cube 0),
    children_ordered fs h path cube 0,
  );
}

trees_ordered : (T : ℕ → Tree) → ((g : ℕ) → IsOrdered (outline_at (T g))) → (gs : List ℕ) → AllByRecursion IsOrdered (map outline_at (map T gs))
trees_ordered T h [] = tt
trees_ordered T h (g ∷ gs) = (h g, trees_ordered T h gs)

octree_ordered : (leaf depth : ℕ) (cube : CubeValue) (ps : List PointValue) → IsOrdered (outline_at (octree_at leaf depth cube ps))
unfolding octree_at
octree_ordered leaf zero cube ps = subst IsOrdered (sym (outline_at-Leaf (inside cube ps))) leaf_ordered
octree_ordered leaf (suc depth) cube ps =
    let q : List PointValue = inside cube ps in
    elim (cases_lt leaf (length q)) [
      | inl more ↦
          let T : ℕ → Tree = λ g. octree_at leaf depth (child cube g) q in
          let node : InnerNode = record { count = length q; voxels = voxels cube q; trees = map T (up_to 8) } in
          rw (lt-leb (length q) leaf more) (subst IsOrdered (sym (outline_at-Inner node))
          (inner_ordered (map outline_at node.trees) (trees_ordered T (λ g. octree_ordered leaf depth (child cube g) q) (up_to 8))))
      | inr few ↦ rw (le-leb (length q) leaf few) (subst IsOrdered (sym (outline_at-Leaf q)) leaf_ordered)
    ]

-- the outline of an octree
pub outline_in_order : (leaf : ℕ) (cube : CubeValue) (ps : List PointValue)
    → AllPairs (λ (a b : OutlineNode). StandsBefore a.path b.path) (outline (octree leaf cube ps) cube)
outline_in_order leaf cube ps =
    let whole : IsOrdered (outline_at (octree leaf cube ps)) = octree_ordered leaf _ cube ps in
    ordered_pairs (outline (octree leaf cube ps) cube) (whole.ordered [] cube)
