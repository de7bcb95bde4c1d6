-- The way down to a leaf, and its points.
use Rattle.std.proofs.Common.{◌≡◌, ℕ, ◌+◌, ◌<◌, ◌≤◌, ◌⊎◌, inl, inr, true, false, List, [], ◌∷◌, map, drop, length, get_or, Some, ap, ◌∙◌, sym, refl, arith, IsTrue, slice_get}
use Rattle.std.proofs.lemmas.Bool.{cases_lt}
use Rattle.std.proofs.lemmas.List.{drop_all, length-map}
use Rattle.std.proofs.lemmas.Option.{slice_get_read}
use Rattle.cube_math.specs.Points.{PointValue}
use Rattle.cube_math.specs.Cubes.{CubeValue, child}
use Rattle.octree_model.specs.Numbers.{up_to}
use Rattle.octree_model.specs.Octree.{inside, octree}
use Rattle.octree_model.proofs.NumberLaws.{at_up_to, length-up_to}
use Rattle.leaf_counts.specs.declared.counts.Counts.{Counts}
use Rattle.leaf_counts.specs.declared.counts.Counts.TheVariants as counts
use Rattle.leaf_counts.specs.Nodes.{NodesAt, counted, is_leaf, is_leaf_at, cube_at}
use Rattle.leaf_counts.proofs.CountLaws.{counts_of, counted_is, child_inside, is_inner}
use Rattle.leaf_counts.proofs.CountLaws as count_laws
use Rattle.leaf_counts.proofs.NodeLaws.{node_at-Inner, next_of}
use Rattle.leaf_counts.proofs.OverfullLaws.{child_counts, eight_children}
use Rattle.leaf_counts.proofs.WayLaws.{node_below, none_below_leaf}
use Rattle.batch_levels.specs.declared.level.Level.{Level}
use Rattle.batch_levels.specs.declared.level.Level.TheVariants.{Leaf, Inner}
use Rattle.batch_levels.specs.declared.level.InnerLevel.{InnerLevel}
use Rattle.batch_levels.specs.Growing.{IsOverLeaf}
use Rattle.batch_levels.specs.Levels.{level_of}
use Rattle.batch_levels.proofs.LevelLaws.{leaf_of, IsInnerOf, inner_of, level_same}

no : {X : Type 0} → false ≡ true → X
no e = cc

-- no leaf stands below a leaf, and none at an inner node
below_no_leaf : (leaf g : ℕ) (c : CubeValue) (ps : List PointValue) (path : List ℕ) → (length (inside c ps) ≤ leaf) ⊎ (c.bits ≤ 7) → is_leaf_at (counted (octree leaf c ps)) (g ∷ path) ≡ false
below_no_leaf leaf g c ps path stays =
    ap is_leaf (none_below_leaf (counted (octree leaf c ps)) (length (inside c ps)) g path (counted_is leaf c ps ∙ count_laws.is_leaf leaf c ps stays))

inner_counts : (leaf : ℕ) (c : CubeValue) (ps : List PointValue) → leaf < length (inside c ps) → 7 < c.bits
    → counted (octree leaf c ps) ≡ counts.Inner (length (inside c ps)) (map (λ g. counts_of leaf (child c g) ps) (up_to 8))
inner_counts leaf c ps more high = counted_is leaf c ps ∙ is_inner leaf c ps more high

inner_no_leaf : (leaf : ℕ) (c : CubeValue) (ps : List PointValue) → leaf < length (inside c ps) → 7 < c.bits → is_leaf_at (counted (octree leaf c ps)) [] ≡ false
inner_no_leaf leaf c ps more high =
    ap (λ (t : Counts). is_leaf_at t []) (inner_counts leaf c ps more high)
    ∙ ap (λ (f : NodesAt). is_leaf (f [])) (node_at-Inner (length (inside c ps)) (map (λ g. counts_of leaf (child c g) ps) (up_to 8)))

-- at a leaf the way has ended
pub leaf_points_here : (leaf : ℕ) (c : CubeValue) (ps xs : List PointValue) (path : List ℕ) → Leaf xs ≡ level_of leaf c ps → IsTrue (is_leaf_at (counted (octree leaf c ps)) path) → xs ≡ inside (cube_at c path) ps
leaf_points_here leaf c ps xs [] is ends = (leaf_of leaf c ps xs is).points
leaf_points_here leaf c ps xs (g ∷ path) is ends = no (sym (below_no_leaf leaf g c ps path (leaf_of leaf c ps xs is).stays) ∙ ends)

-- at an inner node it goes on
pub goes_on : (leaf : ℕ) (c : CubeValue) (ps : List PointValue) (n : InnerLevel) (path : List ℕ) (i : ℕ) → Inner n ≡ level_of leaf c ps → IsTrue (is_leaf_at (counted (octree leaf c ps)) (drop i path)) → i ≤ length path → i < length path
goes_on leaf c ps n path i is ends l = elim (cases_lt i (length path)) [
  | inl below ↦ below
  | inr above ↦
      let inner : IsInnerOf leaf c ps n = inner_of leaf c ps n is in
      no (sym (inner_no_leaf leaf c ps inner.more inner.splits) ∙ ap (is_leaf_at (counted (octree leaf c ps))) (sym (drop_all i path above)) ∙ ends)
]

pub eight_levels : (leaf : ℕ) (c : CubeValue) (ps : List PointValue) (n : InnerLevel) → Inner n ≡ level_of leaf c ps → length n.levels ≡ 8
eight_levels leaf c ps n is =
    let inner : IsInnerOf leaf c ps n = inner_of leaf c ps n is in
    ap (λ (k : InnerLevel). length k.levels) inner.is ∙ length-map (up_to 8) (λ g. level_of leaf (child c g) (inside c ps)) ∙ length-up_to 8

-- the node below in an octant
pub level_below : (leaf : ℕ) (c : CubeValue) (ps : List PointValue) (n : InnerLevel) (g : ℕ) (l : Level) → Inner n ≡ level_of leaf c ps → g < 8 → l ≡ get_or n.levels g l → l ≡ level_of leaf (child c g) ps
level_below leaf c ps n g l is low at =
    let inner : IsInnerOf leaf c ps n = inner_of leaf c ps n is in
    at ∙ ap (λ (k : InnerLevel). get_or k.levels g l) inner.is ∙ at_up_to (λ k. level_of leaf (child c k) (inside c ps)) 8 g l low
    ∙ level_same leaf (child c g) (inside c ps) ps (child_inside c g ps (omega (arith, inner.splits)) low)

-- the way from there on ends at a leaf too
pub ends_below : (leaf : ℕ) (c : CubeValue) (ps : List PointValue) (n : InnerLevel) (path : List ℕ) (i g : ℕ) → Inner n ≡ level_of leaf c ps → g < 8 → slice_get path i ≡ Some g
    → IsTrue (is_leaf_at (counted (octree leaf c ps)) (drop i path)) → IsTrue (is_leaf_at (counted (octree leaf (child c g) ps)) (drop (i + 1) path))
ends_below leaf c ps n path i g is low step ends =
    let inner : IsInnerOf leaf c ps n = inner_of leaf c ps n is in
    let ts : List Counts = map (λ g. counts_of leaf (child c g) ps) (up_to 8) in
    let u : Counts = counts_of leaf (child c g) ps in
    let at : slice_get ts g ≡ Some u = slice_get_read ts (length ts) g u refl (omega (arith, eight_children leaf c ps)) (sym (child_counts leaf c ps g u low)) in
    ap (λ (t : Counts). is_leaf_at t (drop (i + 1) path)) (counted_is leaf (child c g) ps)
    ∙ sym (ap is_leaf (node_below (counted (octree leaf c ps)) (length (inside c ps)) g ts (drop (i + 1) path) u (inner_counts leaf c ps inner.more inner.splits) at))
    ∙ ap (is_leaf_at (counted (octree leaf c ps))) (sym (next_of path i g step)) ∙ ends

pub over_below : (level below : Level) (n : InnerLevel) (path : List ℕ) (i g : ℕ) → (over : IsOverLeaf level (drop i path)) → level ≡ Inner n → g < 8 → slice_get path i ≡ Some g → below ≡ get_or n.levels g below → IsOverLeaf below (drop (i + 1) path)
over_below level below n path i g over is low step at = record {
  leaf = over.leaf;
  cube = child over.cube g;
  points = over.points;
  is = level_below over.leaf over.cube over.points n g below (sym is ∙ over.is) low at;
  ends = ends_below over.leaf over.cube over.points n path i g (sym is ∙ over.is) low step over.ends;
}

-- the cube further down
pub cube_below : (c : CubeValue) (path : List ℕ) (i g : ℕ) → slice_get path i ≡ Some g → cube_at (child c g) (drop (i + 1) path) ≡ cube_at c (drop i path)
cube_below c path i g step = sym (ap (cube_at c) (next_of path i g step))
