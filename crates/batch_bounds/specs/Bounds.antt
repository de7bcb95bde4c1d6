-- Which batch is the first that a bound refuses.
use Rattle.std.specs.Prelude.{ℕ, ◌+◌, List, [], ◌++◌, length, take, Option, Some, None, option_map, nat_lt, filter_map, slice_get, slice_index_or, if◌then◌else◌}
use Rattle.std.specs.Option.{option_or}
use Rattle.cube_math.specs.Points.{PointValue}
use Rattle.cube_math.specs.Cubes.{CubeValue}
use Rattle.cube_math.specs.Refusals.{first_outside}
use Rattle.cube_math.specs.declared.refused.Cause.TheVariants.{Outside, Points, Nodes}
use Rattle.cube_math.specs.declared.refused.RefusedRow.{RefusedRow}
use Rattle.octree_model.specs.Bags.{joined}
use Rattle.octree_model.specs.Counts.{nodes}
use Rattle.octree_model.specs.Numbers.{up_to}
use Rattle.octree_model.specs.Octree.{octree}
use Rattle.batch_bounds.specs.declared.limits.Limits.{Limits}

-- a batch with a point outside the cube is refused
abbrev pub outside_row : CubeValue → ℕ → List PointValue → Option RefusedRow
outside_row cube number batch = option_map (λ at. record { input = number; cause = Outside at }) (first_outside cube batch)

-- so is a batch of n points with which there are more than the most, behind so many that are admitted
abbrev pub points_row : ℕ → ℕ → ℕ → ℕ → Option RefusedRow
points_row most number admitted n =
    if nat_lt most (admitted + n) then Some record { input = number; cause = Points number admitted n most } else None

-- and a batch with which the octree has more nodes than the most
abbrev pub nodes_row : ℕ → ℕ → ℕ → Option RefusedRow
nodes_row most number need = if nat_lt most need then Some record { input = number; cause = Nodes number need most } else None

-- why a batch is refused behind those before it, if it is: for a point outside, for points, or for nodes, tested in this order
abbrev pub refusal : CubeValue → Limits → List (List PointValue) → ℕ → Option RefusedRow
refusal cube limits batches number =
    let before = joined (take number batches) in
    let batch = slice_index_or batches number [] in
    option_or (outside_row cube number batch) (
    option_or (points_row limits.points number (length before) (length batch))
    (nodes_row limits.nodes number (nodes (octree limits.leaf cube (before ++ batch)))))

-- the first batch that is refused
unfoldable pub first_refusal : CubeValue → Limits → List (List PointValue) → Option RefusedRow
first_refusal cube limits batches = slice_get (filter_map (refusal cube limits batches) (up_to (length batches))) 0
