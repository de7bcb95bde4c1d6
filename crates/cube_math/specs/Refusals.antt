-- Why a batch is refused.
use Rattle.std.specs.Prelude.{ℕ, List, length, Option, Some, option_map, nat_lt, if◌then◌else◌, position, not}
use Rattle.cube_math.specs.Points.{PointValue}
use Rattle.cube_math.specs.Cubes.{CubeValue, contains}
use Rattle.cube_math.specs.declared.batch.BatchRefusal.{BatchRefusal}
use Rattle.cube_math.specs.declared.batch.BatchRefusal.TheVariants.{Empty, TooMany, Outside}

-- the place of the first point that the cube does not contain
abbrev pub first_outside : CubeValue → List PointValue → Option ℕ
first_outside cube points = position (λ p. not (contains cube p)) points

-- the first refusal that applies, if one does: no point, too many points, a point outside the cube
abbrev pub refusal : List PointValue → CubeValue → ℕ → Option BatchRefusal
refusal points cube most =
    if nat_lt (length points) 1 then Some Empty
    else if nat_lt most (length points) then Some (TooMany (length points) most)
    else option_map (λ at. Outside at) (first_outside cube points)
