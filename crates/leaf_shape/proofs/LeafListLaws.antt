-- The lists of the leaves of an octree.
use Rattle.std.proofs.Common.{◌≡◌, ◌⊎◌, ℕ, zero, suc, ◌<◌, ◌≤◌, inl, inr, true, false, List, [], ◌∷◌, ◌++◌, length, map, ap, ◌∙◌, sym, refl, arith, Some, None, Option, Contains}
use Rattle.std.specs.Prelude.{All, IsSome, is_some}
use Rattle.std.proofs.lemmas.Bool.{cases_lt, and_from, eq-eqb}
use Rattle.std.proofs.lemmas.List.{append-nil, get_or_default}
use Rattle.std.proofs.lemmas.List.Elements.{All-nil, All-cons, All-get_or}
use Rattle.std.proofs.lemmas.Option.{slice_get_read, slice_get_past}
use Rattle.cube_math.specs.Cubes.{CubeValue, contains, child, cube_at, octant}
use Rattle.cube_math.specs.Points.{PointValue}
use Rattle.cube_math.proofs.Halves.{child_has, octant_below}
use Rattle.octree_model.specs.Numbers.{up_to}
use Rattle.leaf_counts.specs.declared.counts.Counts.{Counts}
use Rattle.leaf_counts.specs.Nodes.{NodeValue, is_leaf_at, node_at}
use Rattle.leaf_counts.proofs.CountLaws as counts
use Rattle.leaf_counts.proofs.CountLaws.{counts_of, counted_is}
use Rattle.leaf_counts.proofs.LeafLaws.{IsLeafHere, IsSplit, leaf_or_split, leaf_here, no_leaf_here, no_leaf_below, leaf_below, fits}
use Rattle.leaf_counts.proofs.OverfullLaws.{child_counts, eight_children}
use Rattle.leaf_counts.proofs.WayLaws.{node_below, no_node_below, none_below_leaf}
use Rattle.leaf_shape.specs.Shapes.{GoesOn, IsListOf, path_of}
use Rattle.leaf_shape.proofs.CubeLaws.{IsWay, goes_on}

children_of : ℕ → CubeValue → List PointValue → List Counts
children_of leaf c ps = map (λ g. counts_of leaf (child c g) ps) (up_to 8)

node_of_child : (leaf : ℕ) (c : CubeValue) (ps : List PointValue) (g : ℕ) (path : List ℕ) → IsSplit leaf c ps → g < 8
    → node_at (counts_of leaf c ps) (g ∷ path) ≡ node_at (counts_of leaf (child c g) ps) path
unfolding children_of
node_of_child leaf c ps g path s low =
    node_below _ _ g (children_of leaf c ps) path (counts_of leaf (child c g) ps) (counts.is_inner leaf c ps s.more s.high)
    (slice_get_read (children_of leaf c ps) 8 g _ (sym (eight_children leaf c ps)) low (sym (child_counts leaf c ps g _ low)))

no_node_of_child : (leaf : ℕ) (c : CubeValue) (ps : List PointValue) (g : ℕ) (path : List ℕ) → IsSplit leaf c ps
    → 8 ≤ g → node_at (counts_of leaf c ps) (g ∷ path) ≡ None
unfolding children_of
no_node_of_child leaf c ps g path s past =
    no_node_below _ _ g (children_of leaf c ps) path (counts.is_inner leaf c ps s.more s.high)
    (slice_get_past (children_of leaf c ps) g (omega (arith, eight_children leaf c ps)))

none_is : {X : Type 0} (x : X) → None ≡ Some x → ⊥
none_is x e = cc

false_is : false ≡ true → ⊥
false_is e = cc

-- the path of a node has octants
octants_of_node : (path : List ℕ) (leaf : ℕ) (c : CubeValue) (ps : List PointValue) (node : NodeValue)
    → node_at (counts_of leaf c ps) path ≡ Some node → All (λ g. g < 8) path
octants_of_node [] leaf c ps node e = All-nil (λ g. g < 8)
octants_of_node (g ∷ path) leaf c ps node e = of_role (leaf_or_split leaf c ps) (cases_lt g 8) (λ d e. octants_of_node path leaf d ps node e)
  where
    of_role : IsLeafHere leaf c ps ⊎ IsSplit leaf c ps → (g < 8) ⊎ (8 ≤ g)
        → ((d : CubeValue) → node_at (counts_of leaf d ps) path ≡ Some node → All (λ k. k < 8) path) → All (λ k. k < 8) (g ∷ path)
    of_role (inl here) low on = absurd (none_is node (sym (none_below_leaf _ _ g path (counts.is_leaf leaf c ps here)) ∙ e))
    of_role (inr s) (inl low) on = All-cons (λ k. k < 8) g path low (on (child c g) (sym (node_of_child leaf c ps g path s low) ∙ e))
    of_role (inr s) (inr past) on = absurd (none_is node (sym (no_node_of_child leaf c ps g path s past) ∙ e))

-- below a leaf no node stands
none_below : (path : List ℕ) (leaf : ℕ) (c : CubeValue) (ps : List PointValue) (h : ℕ) (rest : List ℕ)
    → is_leaf_at (counts_of leaf c ps) path ≡ true → node_at (counts_of leaf c ps) (path ++ h ∷ rest) ≡ None
none_below [] leaf c ps h rest e = of_role (leaf_or_split leaf c ps)
  where
    of_role : IsLeafHere leaf c ps ⊎ IsSplit leaf c ps → node_at (counts_of leaf c ps) (h ∷ rest) ≡ None
    of_role (inl here) = none_below_leaf _ _ h rest (counts.is_leaf leaf c ps here)
    of_role (inr s) = absurd (false_is (sym (no_leaf_here leaf c ps s) ∙ e))
none_below (g ∷ path) leaf c ps h rest e = of_role (leaf_or_split leaf c ps) (cases_lt g 8) (λ d e. none_below path leaf d ps h rest e)
  where
    of_role : IsLeafHere leaf c ps ⊎ IsSplit leaf c ps → (g < 8) ⊎ (8 ≤ g)
        → ((d : CubeValue) → is_leaf_at (counts_of leaf d ps) path ≡ true → node_at (counts_of leaf d ps) (path ++ h ∷ rest) ≡ None)
        → node_at (counts_of leaf c ps) (g ∷ path ++ h ∷ rest) ≡ None
    of_role (inl here) low on = absurd (false_is (sym (no_leaf_below leaf c ps g path here) ∙ e))
    of_role (inr s) (inl low) on = node_of_child leaf c ps g (path ++ h ∷ rest) s low ∙ on (child c g) (sym (leaf_below leaf c ps g path s low) ∙ e)
    of_role (inr s) (inr past) on = no_node_of_child leaf c ps g (path ++ h ∷ rest) s past

-- a point of a cube lies in the cube of a leaf
record HasLeaf (leaf : ℕ) (c : CubeValue) (ps : List PointValue) (p : PointValue) : Type 0 where
  path : List ℕ
  way : IsWay c path
  ends : is_leaf_at (counts_of leaf c ps) path ≡ true
  contained : contains (cube_at c path) p ≡ true

leaf_at_root : (leaf : ℕ) (c : CubeValue) (ps : List PointValue) (p : PointValue) → IsLeafHere leaf c ps → contains c p ≡ true → HasLeaf leaf c ps p
leaf_at_root leaf c ps p here has =
    let way : IsWay c [] = record { octants = All-nil (λ g. g < 8); fits = omega arith } in
    record { path = []; way = way; ends = leaf_here leaf c ps here; contained = has }

leaf_of_child : (leaf : ℕ) (c : CubeValue) (ps : List PointValue) (p : PointValue) (g : ℕ) → IsSplit leaf c ps → g < 8
    → HasLeaf leaf (child c g) ps p → HasLeaf leaf c ps p
leaf_of_child leaf c ps p g s low l = record {
  path = g ∷ l.path;
  way = record { octants = All-cons (λ k. k < 8) g l.path low l.way.octants; fits = omega (arith, l.way.fits, s.high) };
  ends = leaf_below leaf c ps g l.path s low ∙ l.ends;
  contained = l.contained;
}

has_leaf : (n leaf : ℕ) (c : CubeValue) (ps : List PointValue) (p : PointValue) → c.bits ≤ n → contains c p ≡ true → HasLeaf leaf c ps p
has_leaf zero leaf c ps p le has = leaf_at_root leaf c ps p (inr (omega arith)) has
has_leaf (suc n) leaf c ps p le has = of_role (leaf_or_split leaf c ps) (λ d le has. has_leaf n leaf d ps p le has)
  where
    of_role : IsLeafHere leaf c ps ⊎ IsSplit leaf c ps
        → ((d : CubeValue) → d.bits ≤ n → contains d p ≡ true → HasLeaf leaf d ps p) → HasLeaf leaf c ps p
    of_role (inl here) on = leaf_at_root leaf c ps p here has
    of_role (inr s) on =
        let some : 0 < c.bits = omega (arith, s.high) in
        let low : octant c p < 8 = octant_below c p some has in
        let below : contains (child c (octant c p)) p ≡ true =
        child_has c p (octant c p) some low ∙ and_from _ _ has (eq-eqb (octant c p) (octant c p) refl) in
        leaf_of_child leaf c ps p (octant c p) s low (on (child c (octant c p)) (omega (arith, le)) below)

-- the list of a point is that of its leaf
pub leaf_has_list : (leaf : ℕ) (c : CubeValue) (ps : List PointValue) (paths : List (List ℕ)) (p : PointValue) (list : ℕ)
    → 7 ≤ c.bits → contains c p ≡ true
    → ((path : List ℕ) → is_leaf_at (counts_of leaf c ps) path ≡ true → Contains paths path)
    → All (λ path. IsSome (node_at (counts_of leaf c ps) path)) paths → IsListOf c paths p list → is_leaf_at (counts_of leaf c ps) (path_of paths list) ≡ true
leaf_has_list leaf c ps paths p list seven has leaves nodes l = of_leaf (has_leaf c.bits leaf c ps p (omega arith) has)
  where
    node_there : (path : List ℕ) (o : Option NodeValue) → node_at (counts_of leaf c ps) path ≡ o
        → IsSome (node_at (counts_of leaf c ps) path)
        → (node : NodeValue) × (node_at (counts_of leaf c ps) path ≡ Some node)
    node_there path None is some = absurd (false_is (sym (ap (λ (o : Option NodeValue). is_some o) is) ∙ some))
    node_there path (Some node) is some = (node, is)

    node_of_list : (node : NodeValue) × (node_at (counts_of leaf c ps) (path_of paths list) ≡ Some node)
    node_of_list = node_there (path_of paths list) (node_at (counts_of leaf c ps) (path_of paths list)) refl
        (All-get_or (λ path. IsSome (node_at (counts_of leaf c ps) path)) paths list [] l.latest.opened nodes)

    way : IsWay c (path_of paths list)
    way = record {
      octants = octants_of_node (path_of paths list) leaf c ps node_of_list.0 node_of_list.1;
      fits = omega (arith, fits (path_of paths list) leaf c ps node_of_list.0 seven node_of_list.1);
    }

    by_rest : (path rest : List ℕ) → is_leaf_at (counts_of leaf c ps) path ≡ true → path_of paths list ≡ path ++ rest
        → is_leaf_at (counts_of leaf c ps) (path_of paths list) ≡ true
    by_rest path [] ends is = ap (is_leaf_at (counts_of leaf c ps)) (is ∙ append-nil path) ∙ ends
    by_rest path (h ∷ rest) ends is =
        absurd (none_is node_of_list.0 (sym (none_below path leaf c ps h rest ends)
        ∙ ap (node_at (counts_of leaf c ps)) (sym is) ∙ node_of_list.1))

    of_leaf : HasLeaf leaf c ps p → is_leaf_at (counts_of leaf c ps) (path_of paths list) ≡ true
    of_leaf q =
        let at : Contains paths q.path = leaves q.path q.ends in
        let is : path_of paths at.0 ≡ q.path = get_or_default paths at.0 [] q.path at.1 ∙ at.2 in
        let on : GoesOn q.path (path_of paths list) =
        goes_on c q.path (path_of paths list) p q.way way q.contained l.contained
        (omega (arith, ap length is, l.longest at.0 at.1 (ap (λ r. contains (cube_at c r) p) is ∙ q.contained))) in
        by_rest q.path on.rest q.ends on.is
