-- The way down from a node.
use Rattle.std.proofs.Common.{◌≡◌, ℕ, ◌+◌, ◌<◌, ◌≤◌, arith, map, List, [], ◌∷◌, ◌++◌, length, drop, get_or, Some, None, Option, ap, ◌∙◌, sym, inl, inr, ◌⊎◌, slice_get, refl, IsTrue, append_assoc}
use Rattle.std.specs.Prelude.{option_and_then, option_map}
use Rattle.std.proofs.lemmas.List.{length-map, drop_more, append-nil}
use Rattle.std.proofs.lemmas.Bool.{and_from, eq-eqb}
use Rattle.std.proofs.lemmas.Option.{slice_get-map, slice_get_read}
use Rattle.cube_math.specs.Points.{PointValue}
use Rattle.cube_math.specs.Cubes.{CubeValue, contains, child, octant}
use Rattle.cube_math.proofs.Halves.{child_has}
use Rattle.octree_model.specs.Numbers.{up_to}
use Rattle.octree_model.proofs.NumberLaws.{at_up_to, length-up_to}
use Rattle.leaf_counts.specs.declared.counts.Counts.{Counts, Leaf, Inner}
use Rattle.leaf_counts.specs.declared.growth.Growth.{Growth, Each}
use Rattle.leaf_counts.specs.Descent.{IsCountedIn, IsLeafBelow}
use Rattle.leaf_counts.specs.Growths.{grown, grown_each}
use Rattle.leaf_counts.specs.Nodes.{NodeValue, NodesAt, node_at, count_at, is_leaf, is_leaf_at, cube_at}
use Rattle.leaf_counts.proofs.CountLaws.{counts_of, counted_is, IsInnerOf, inner_of}
use Rattle.leaf_counts.proofs.GrowthLaws.{grown_node, few_grown, grown_at, place_at}
use Rattle.leaf_counts.proofs.NodeLaws.{node_at-Leaf, node_at-Inner, next_of}

-- what the way down needs at an inner node
pub record IsInnerIn (cube : CubeValue) (ts : List Counts) : Type 0 where
  pub splits : 7 < cube.bits
  pub eight : length ts ≡ 8
  pub below : (g : ℕ) (t : Counts) → g < 8 → t ≡ get_or ts g t → IsCountedIn (child cube g) t

pub inner_in : (cube : CubeValue) (t : Counts) (n : ℕ) (ts : List Counts) → IsCountedIn cube t → t ≡ Inner n ts → IsInnerIn cube ts
inner_in cube t n ts counted is =
    let inner : IsInnerOf counted.leaf cube counted.points n ts = inner_of counted.leaf cube counted.points n ts (sym is ∙ counted.is ∙ counted_is counted.leaf cube counted.points) in
    let all : length ts ≡ 8 = ap length inner.below ∙ length-map (up_to 8) (λ g. counts_of counted.leaf (child cube g) counted.points) ∙ length-up_to 8 in
    record {
      splits = inner.splits;
      eight = all;
      below = λ g u low at. record {
        leaf = counted.leaf;
        points = counted.points;
        is = at ∙ ap (λ (us : List Counts). get_or us g u) inner.below ∙ at_up_to (λ k. counts_of counted.leaf (child cube k) counted.points) 8 g u low
            ∙ sym (counted_is counted.leaf (child cube g) counted.points);
      };
    }

-- ---- nodes by paths
pub count_here : (t : Counts) (n : ℕ) → (ts : List Counts) → (t ≡ Leaf n) ⊎ (t ≡ Inner n ts) → count_at t [] ≡ Some n
count_here t n ts is = elim is [
  | inl leaf ↦ ap (λ (u : Counts). count_at u []) leaf ∙ ap (λ (f : NodesAt). option_map (λ (v : NodeValue). v.count) (f [])) (node_at-Leaf n)
  | inr inner ↦ ap (λ (u : Counts). count_at u []) inner ∙ ap (λ (f : NodesAt). option_map (λ (v : NodeValue). v.count) (f [])) (node_at-Inner n ts)
]

pub none_below_leaf : (t : Counts) (n g : ℕ) (path : List ℕ) → t ≡ Leaf n → node_at t (g ∷ path) ≡ None
none_below_leaf t n g path is = ap (λ (u : Counts). node_at u (g ∷ path)) is ∙ ap (λ (f : NodesAt). f (g ∷ path)) (node_at-Leaf n)

node_step : (t : Counts) (n g : ℕ) (ts : List Counts) (path : List ℕ) (o : Option Counts) → t ≡ Inner n ts → slice_get ts g ≡ o
    → node_at t (g ∷ path) ≡ option_and_then (λ (nodes : NodesAt). nodes path) (option_map node_at o)
node_step t n g ts path o is at =
    ap (λ (u : Counts). node_at u (g ∷ path)) is ∙ ap (λ (f : NodesAt). f (g ∷ path)) (node_at-Inner n ts)
    ∙ ap (option_and_then (λ (nodes : NodesAt). nodes path)) (slice_get-map node_at ts g ∙ ap (option_map node_at) at)

pub node_below : (t : Counts) (n g : ℕ) (ts : List Counts) (path : List ℕ) (u : Counts) → t ≡ Inner n ts → slice_get ts g ≡ Some u → node_at t (g ∷ path) ≡ node_at u path
node_below t n g ts path u is at = node_step t n g ts path (Some u) is at

pub no_node_below : (t : Counts) (n g : ℕ) (ts : List Counts) (path : List ℕ) → t ≡ Inner n ts → slice_get ts g ≡ None → node_at t (g ∷ path) ≡ None
no_node_below t n g ts path is at = node_step t n g ts path None is at

pub no_count_below_leaf : (t : Counts) (n i : ℕ) (path : List ℕ) → t ≡ Leaf n → i < length path → None ≡ count_at t (drop i path)
no_count_below_leaf t n i path is l =
    sym (ap (count_at t) (drop_more path i 0 l) ∙ ap (option_map (λ (v : NodeValue). v.count)) (none_below_leaf t n (get_or path i 0) (drop (i + 1) path) is))

pub no_count_below : (t : Counts) (n i g : ℕ) (ts : List Counts) (path : List ℕ) → t ≡ Inner n ts → slice_get path i ≡ Some g → slice_get ts g ≡ None → None ≡ count_at t (drop i path)
no_count_below t n i g ts path is step at =
    sym (ap (count_at t) (next_of path i g step) ∙ ap (option_map (λ (v : NodeValue). v.count)) (no_node_below t n g ts (drop (i + 1) path) is at))

pub count_of_child : (t : Counts) (n i g : ℕ) (ts : List Counts) (path : List ℕ) (u : Counts) → t ≡ Inner n ts → slice_get path i ≡ Some g → slice_get ts g ≡ Some u
    → count_at u (drop (i + 1) path) ≡ count_at t (drop i path)
count_of_child t n i g ts path u is step at =
    sym (ap (count_at t) (next_of path i g step) ∙ ap (option_map (λ (v : NodeValue). v.count)) (node_below t n g ts (drop (i + 1) path) u is at))

-- ---- the leaf of a point
pub leaf_itself : (t : Counts) (n : ℕ) (path : List ℕ) (cube : CubeValue) (p : PointValue) → t ≡ Leaf n → IsTrue (contains cube p) → IsLeafBelow t path cube p path
leaf_itself t n path cube p is has =
    record { steps = []; is = sym (append-nil path); leaf = ap (λ (u : Counts). is_leaf_at u []) is ∙ ap (λ (f : NodesAt). is_leaf (f [])) (node_at-Leaf n); contained = has }

pub leaf_of_child : (t : Counts) (n g : ℕ) (ts : List Counts) (path path' : List ℕ) (cube cube' : CubeValue) (p : PointValue) (u : Counts) (found : List ℕ)
    → t ≡ Inner n ts → g < length ts → u ≡ get_or ts g u → path' ≡ path ++ g ∷ [] → cube' ≡ child cube g → IsLeafBelow u path' cube' p found → IsLeafBelow t path cube p found
leaf_of_child t n g ts path path' cube cube' p u found is low at further smaller below = record {
  steps = g ∷ below.steps;
  is = below.is ∙ ap (λ (q : List ℕ). q ++ below.steps) further ∙ append_assoc path (g ∷ []) below.steps;
  leaf = ap is_leaf (node_below t n g ts below.steps u is (slice_get_read ts (length ts) g u refl low at)) ∙ below.leaf;
  contained = ap (λ (c : CubeValue). contains (cube_at c below.steps) p) (sym smaller) ∙ below.contained;
}

-- the point lies in the child of its octant
pub in_its_child : (c c' : CubeValue) (p : PointValue) (g : ℕ) → 0 < c.bits → g < 8 → IsTrue (contains c p) → g ≡ octant c p → c' ≡ child c g → IsTrue (contains c' p)
in_its_child c c' p g s l has o is = ap (λ (k : CubeValue). contains k p) is ∙ child_has c p g s l ∙ and_from _ _ has (eq-eqb _ _ (sym o))

-- ---- a node that changed
-- what the way down needs at an inner node once it has changed
pub record IsGrownIn (cube : CubeValue) (t : Counts) (gs : List Growth) (ts places : List Counts) : Type 0 where
  pub count : ℕ
  pub is : t ≡ Inner count (grown_each (map grown gs) ts places)
  pub inner : IsInnerIn cube (grown_each (map grown gs) ts places)
  pub room : 8 ≤ length places

pub grown_in : (cube : CubeValue) (growth : Growth) (t : Counts) (n m : ℕ) (gs : List Growth) (ts places : List Counts) → IsCountedIn cube (grown growth t) → growth ≡ Each n gs places → t ≡ Inner m ts → IsGrownIn cube (grown growth t) gs ts places
grown_in cube growth t n m gs ts places counted change is =
    let node : grown growth t ≡ Inner n (grown_each (map grown gs) ts places) = grown_node growth t n m gs ts places change is in
    let inner : IsInnerIn cube (grown_each (map grown gs) ts places) = inner_in cube (grown growth t) n (grown_each (map grown gs) ts places) counted node in
    record { count = n; is = node; inner = inner; room = omega (arith, inner.eight, few_grown (map grown gs) ts places) }

-- a child that changed, and one that stands in its place
pub grown_child : (cube : CubeValue) (t : Counts) (gs : List Growth) (ts places : List Counts) (g : ℕ) (growth : Growth) (u : Counts) → IsGrownIn cube t gs ts places → g < 8 → slice_get gs g ≡ Some growth → slice_get ts g ≡ Some u
    → grown growth u ≡ get_or (grown_each (map grown gs) ts places) g (grown growth u)
grown_child cube t gs ts places g growth u node low change here = sym (grown_at gs ts places g growth u (grown growth u) change here (omega (arith, node.inner.eight)))

pub placed_child : (cube : CubeValue) (t : Counts) (gs : List Growth) (ts places : List Counts) (g : ℕ) (u : Counts) → IsGrownIn cube t gs ts places → g < 8 → (slice_get gs g ≡ None) ⊎ (slice_get ts g ≡ None) → u ≡ get_or places g u
    → u ≡ get_or (grown_each (map grown gs) ts places) g u
placed_child cube t gs ts places g u node low none here = here ∙ sym (place_at gs ts places g u none (omega (arith, node.inner.eight)))
