-- Points that are cut into batches, and the first batch that stops their admission.
use Rattle.std.specs.Prelude.{ℕ, ◌+◌, ◌≡◌, ◌<◌, List, [], length, take, Option, Some, None, slice_index_or, ⊤}
use Rattle.std.specs.Option.{option_or}
use Rattle.cube_math.specs.Points.{PointValue}
use Rattle.cube_math.specs.Cubes.{CubeValue}
use Rattle.cube_math.specs.declared.refused.RefusedRow.{RefusedRow}
use Rattle.octree_model.specs.Bags.{joined}
use Rattle.octree_model.specs.Counts.{nodes}
use Rattle.octree_model.specs.Octree.{octree}
use Rattle.batch_bounds.specs.Batches.{ends_from}
use Rattle.batch_bounds.specs.Bounds.{outside_row, points_row, nodes_row}
use Rattle.batch_bounds.specs.declared.admission.Refusal.{Refusal}
use Rattle.batch_bounds.specs.declared.admission.Refusal.TheVariants.{Batch, Memory}
use Rattle.batch_bounds.specs.declared.stop.Stop.{Stop}

-- the points are those of the batches, which end at these places
pub record IsCut (points : List PointValue) (ends : List ℕ) (batches : List (List PointValue)) : Type 0 where
  pub joined_is : points ≡ joined batches
  pub ends_are : ends ≡ ends_from 0 batches

-- the points are those of some batches, which end at these places
pub record CanCut (points : List PointValue) (ends : List ℕ) : Type 0 where
  pub batches : List (List PointValue)
  pub is : IsCut points ends batches

-- the refusals of batches by one bound alone
abbrev pub outside_at : CubeValue → List (List PointValue) → ℕ → Option RefusedRow
outside_at cube batches k = outside_row cube k (slice_index_or batches k [])

abbrev pub points_at : ℕ → List (List PointValue) → ℕ → Option RefusedRow
points_at most batches k = points_row most k (length (joined (take k batches))) (length (slice_index_or batches k []))

-- how many nodes the octree has with the batch
abbrev pub need_at : CubeValue → ℕ → List (List PointValue) → ℕ → ℕ
need_at cube leaf batches k = nodes (octree leaf cube (joined (take (k + 1) batches)))

abbrev pub nodes_at : CubeValue → ℕ → ℕ → List (List PointValue) → ℕ → Option RefusedRow
nodes_at cube leaf most batches k = nodes_row most k (need_at cube leaf batches k)

-- of n batches, the first that is refused, if one is
abbrev pub IsFirst : (ℕ → Option RefusedRow) → ℕ → Option Stop → Type 0
IsFirst refusal n None = (k : ℕ) → k < n → refusal k ≡ None
IsFirst refusal n (Some stop) = (stop.batch < n) × (refusal stop.batch ≡ Some stop.row) × ((k : ℕ) → k < stop.batch → refusal k ≡ None)

-- the refusals by the bounds that no octree is needed for: a point outside, and then points
abbrev pub early_at : CubeValue → ℕ → List (List PointValue) → ℕ → Option RefusedRow
early_at cube most batches k = option_or (outside_at cube batches k) (points_at most batches k)

-- a refusal is the due one, or want of memory
abbrev pub Refuses : Refusal → Option RefusedRow → Type 0
Refuses (Batch row) due = due ≡ Some row
Refuses Memory due = ⊤
