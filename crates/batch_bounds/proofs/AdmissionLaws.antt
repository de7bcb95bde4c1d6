-- The first batch that any bound refuses.
use Rattle.std.proofs.Common.{◌≡◌, ℕ, suc, ◌+◌, ◌<◌, ◌≤◌, List, [], ◌∷◌, ◌++◌, length, take, Option, Some, None, ap, ◌∙◌, sym, refl, arith, IsTrue}
use Rattle.std.specs.Prelude.{option_map}
use Rattle.std.specs.List.{All}
use Rattle.std.specs.Option.{option_or}
use Rattle.std.proofs.lemmas.List.{get_or-take, length-take-le}
use Rattle.std.proofs.lemmas.List.Elements.{All-nil, All-append}
use Rattle.cube_math.specs.Points.{PointValue}
use Rattle.cube_math.specs.Cubes.{CubeValue, contains}
use Rattle.cube_math.specs.Refusals.{first_outside}
use Rattle.cube_math.specs.declared.refused.RefusedRow.{RefusedRow}
use Rattle.cube_math.specs.declared.refused.Cause.TheVariants.{Outside}
use Rattle.cube_math.proofs.Firsts.{all_pass}
use Rattle.octree_model.specs.Bags.{joined}
use Rattle.octree_model.specs.Counts.{nodes}
use Rattle.octree_model.specs.Octree.{octree}
use Rattle.batch_bounds.specs.Bounds.{nodes_row, refusal, first_refusal}
use Rattle.batch_bounds.specs.Stops.{IsCut, IsFirst, outside_at, points_at, nodes_at, early_at}
use Rattle.batch_bounds.specs.declared.limits.Limits.{Limits}
use Rattle.batch_bounds.specs.declared.stop.Stop.{Stop}
use Rattle.batch_bounds.proofs.Cuts.{batch_at, end_of, ends-take, joined_more, first_points, take-take}
use Rattle.batch_bounds.proofs.Firsts.{none_first, one_first}

or_or : (a b c : Option RefusedRow) → option_or a (option_or b c) ≡ option_or (option_or a b) c
or_or None b c = refl
or_or (Some row) b c = refl

none_of_both : (a b : Option RefusedRow) → option_or a b ≡ None → a ≡ None
none_of_both None b e = refl
none_of_both (Some row) b e = cc

-- why a batch is refused: by a bound that needs no octree, and else for nodes
refusal_is : (cube : CubeValue) (limits : Limits) (bs : List (List PointValue)) (k : ℕ) → k < length bs
    → refusal cube limits bs k ≡ option_or (early_at cube limits.points bs k) (nodes_at cube limits.leaf limits.nodes bs k)
refusal_is cube limits bs k l =
    or_or (outside_at cube bs k) (points_at limits.points bs k) (nodes_row limits.nodes k (nodes (octree limits.leaf cube (joined (take k bs) ++ batch_at bs k))))
    ∙ ap (λ (ps : List PointValue). option_or (early_at cube limits.points bs k) (nodes_row limits.nodes k (nodes (octree limits.leaf cube ps)))) (sym (joined_more bs k l))

none_refused : (cube : CubeValue) (limits : Limits) (bs : List (List PointValue)) (k : ℕ) → k < length bs → early_at cube limits.points bs k ≡ None → nodes_at cube limits.leaf limits.nodes bs k ≡ None → refusal cube limits bs k ≡ None
none_refused cube limits bs k l early nodes = refusal_is cube limits bs k l ∙ (λ i. option_or (early i) (nodes i))

-- no batch is refused
pub none_due : (cube : CubeValue) (limits : Limits) (bs : List (List PointValue)) → IsFirst (early_at cube limits.points bs) (length bs) None → IsFirst (nodes_at cube limits.leaf limits.nodes bs) (length bs) None
    → first_refusal cube limits bs ≡ None
unfolding first_refusal
none_due cube limits bs early nodes = none_first (refusal cube limits bs) (length bs) (λ k l. none_refused cube limits bs k l (early k l) (nodes k l))

-- the first one that is
pub due : (cube : CubeValue) (limits : Limits) (bs : List (List PointValue)) (stop : Stop) → IsFirst (refusal cube limits bs) (length bs) (Some stop) → first_refusal cube limits bs ≡ Some stop.row
unfolding first_refusal
due cube limits bs stop first = one_first (refusal cube limits bs) (length bs) stop.batch stop.row first.0 first.1 first.2

-- one with too many nodes, where no other bound refuses any before it
pub nodes_due : (cube : CubeValue) (limits : Limits) (bs : List (List PointValue)) (stop : Stop) (upto : ℕ) → upto ≤ length bs → stop.batch < upto → nodes_at cube limits.leaf limits.nodes bs stop.batch ≡ Some stop.row
    → ((k : ℕ) → k < stop.batch → nodes_at cube limits.leaf limits.nodes bs k ≡ None) → ((k : ℕ) → k < upto → early_at cube limits.points bs k ≡ None) → IsFirst (refusal cube limits bs) (length bs) (Some stop)
nodes_due cube limits bs stop upto l within is before early = (
  omega arith,
  refusal_is cube limits bs stop.batch (omega arith) ∙ (λ i. option_or (early stop.batch within i) (is i)),
  λ k m. none_refused cube limits bs k (omega arith) (early k (omega arith)) (before k m),
)

-- one that another bound refuses, where no batch before it has too many nodes
pub early_due : (cube : CubeValue) (limits : Limits) (bs : List (List PointValue)) (stop : Stop) → IsFirst (early_at cube limits.points bs) (length bs) (Some stop)
    → ((k : ℕ) → k < stop.batch → nodes_at cube limits.leaf limits.nodes bs k ≡ None) → IsFirst (refusal cube limits bs) (length bs) (Some stop)
early_due cube limits bs stop first few = (
  first.0,
  refusal_is cube limits bs stop.batch first.0 ∙ ap (λ (o : Option RefusedRow). option_or o (nodes_at cube limits.leaf limits.nodes bs stop.batch)) first.1,
  λ k m. none_refused cube limits bs k (omega (arith, first.0)) (first.2 k m) (few k m),
)

-- ---- the first batches alone
pub cut_prefix : (points : List PointValue) (ends : List ℕ) (bs : List (List PointValue)) (m : ℕ) → IsCut points ends bs → IsCut (take (end_of bs m) points) (take m ends) (take m bs)
cut_prefix points ends bs m cut = record {
  joined_is = ap (take (end_of bs m)) cut.joined_is ∙ first_points bs m;
  ends_are = ap (take m) cut.ends_are ∙ ends-take 0 m bs;
}

pub same_nodes : (cube : CubeValue) (leaf most m : ℕ) (bs : List (List PointValue)) (k : ℕ) → k < m → nodes_at cube leaf most (take m bs) k ≡ nodes_at cube leaf most bs k
same_nodes cube leaf most m bs k l = ap (λ (b : List (List PointValue)). nodes_row most k (nodes (octree leaf cube (joined b)))) (take-take (k + 1) m bs (omega arith))

-- ---- containment
no_outside : (cube : CubeValue) (k : ℕ) (o : Option ℕ) → option_map {U = RefusedRow} (λ at. record { input = k; cause = Outside at }) o ≡ None → o ≡ None
no_outside cube k None e = refl
no_outside cube k (Some at) e = cc

pub inside_early : (cube : CubeValue) (most : ℕ) (bs : List (List PointValue)) (k : ℕ) → early_at cube most bs k ≡ None → first_outside cube (batch_at bs k) ≡ None
inside_early cube most bs k none = no_outside cube k (first_outside cube (batch_at bs k)) (none_of_both (outside_at cube bs k) (points_at most bs k) none)

pub all_contained : (cube : CubeValue) (bs : List (List PointValue)) → ((k : ℕ) → k < length bs → first_outside cube (batch_at bs k) ≡ None) → All (λ p. IsTrue (contains cube p)) (joined bs)
all_contained cube [] none = All-nil (λ p. IsTrue (contains cube p))
all_contained cube (b ∷ bs) none =
    All-append (λ p. IsTrue (contains cube p)) b (joined bs) (all_pass (contains cube) b (none 0 (omega arith))) (all_contained cube bs (λ k l. none (suc k) (omega arith)))

pub same_batches : (m : ℕ) (bs : List (List PointValue)) (k : ℕ) → k < m → batch_at (take m bs) k ≡ batch_at bs k
same_batches m bs k l = get_or-take m bs k [] l

-- the cube contains the points of the batches before one that is the first to be refused without an octree
pub contained_before : (cube : CubeValue) (most : ℕ) (bs : List (List PointValue)) (stop : Stop) → IsFirst (early_at cube most bs) (length bs) (Some stop) → All (λ p. IsTrue (contains cube p)) (joined (take stop.batch bs))
contained_before cube most bs stop first = all_contained cube (take stop.batch bs) (λ k l.
    let within : k < stop.batch = omega (arith, length-take-le stop.batch bs (omega (arith, first.0))) in
    ap (first_outside cube) (same_batches stop.batch bs k within) ∙ inside_early cube most bs k (first.2 k within))
