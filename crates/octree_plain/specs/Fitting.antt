-- The cube that fits points: the least of the cubes from 7 bits on whose side is above the span of each axis.
use Rattle.std.specs.Prelude.{ℕ, ◌+◌, ◌^◌, Bool, ◌&&◌, nat_le, nat_lt, find, unwrap_or, Result, Ok, Err, List, [], ◌∷◌, map, fold, Option, Some, None, if◌then◌else◌, ℤ, pos, ◌-ℤ◌, unsigned_abs}
use Rattle.std.specs.Int.{int_min, int_max}
use Rattle.std.specs.Option.{option_map_or}
use Rattle.cube_math.specs.Points.{PointValue}
use Rattle.cube_math.specs.Cubes.{CubeValue}
use Rattle.octree_model.specs.Numbers.{up_to}
use Rattle.octree_plain.specs.declared.fitting.Span.{Span}

-- the x coordinates of points
abbrev pub on_x : List PointValue → List ℤ
on_x ps = map (λ p. p.x) ps

-- the y coordinates of points
abbrev pub on_y : List PointValue → List ℤ
on_y ps = map (λ p. p.y) ps

-- the z coordinates of points
abbrev pub on_z : List PointValue → List ℤ
on_z ps = map (λ p. p.z) ps

-- the least coordinate, or 0 where there is none
abbrev pub least_of : List ℤ → ℤ
least_of [] = pos 0
least_of (n ∷ ns) = fold int_min n ns

-- the greatest coordinate, or 0 where there is none
abbrev pub greatest_of : List ℤ → ℤ
greatest_of [] = pos 0
greatest_of (n ∷ ns) = fold int_max n ns

-- how far the greatest coordinate lies above the least
abbrev pub span_of : List ℤ → ℕ
span_of ns = unsigned_abs (greatest_of ns -ℤ least_of ns)

-- the first axis that spans 2 ^ 31 or more, with its span, where there is one
abbrev pub wide_axis : List PointValue → Option Span
wide_axis ps =
    if nat_le (2 ^ 31) (span_of (on_x ps)) then Some record { axis = 0; span = span_of (on_x ps) }
    else if nat_le (2 ^ 31) (span_of (on_y ps)) then Some record { axis = 1; span = span_of (on_y ps) }
    else if nat_le (2 ^ 31) (span_of (on_z ps)) then Some record { axis = 2; span = span_of (on_z ps) }
    else None

-- whether each axis spans less than 2 ^ bits
abbrev pub all_span_below : List PointValue → ℕ → Bool
all_span_below ps bits = nat_lt (span_of (on_x ps)) (2 ^ bits) && nat_lt (span_of (on_y ps)) (2 ^ bits) && nat_lt (span_of (on_z ps)) (2 ^ bits)

-- the least number of bits, from 7 to 31, for which each axis spans less than 2 ^ bits
unfoldable pub fitted_bits : List PointValue → Option ℕ
fitted_bits ps = find (all_span_below ps) (map (λ k. 7 + k) (up_to 25))

-- where an axis of so many bits begins: the lesser of the least coordinate and 2 ^ 31 - 2 ^ bits
abbrev pub origin : ℤ → ℕ → ℤ
origin least bits = int_min least (pos (2 ^ 31) -ℤ pos (2 ^ bits))

-- the cube of so many bits round points
abbrev pub cube_round : List PointValue → ℕ → CubeValue
cube_round ps bits = record { ox = origin (least_of (on_x ps)) bits; oy = origin (least_of (on_y ps)) bits; oz = origin (least_of (on_z ps)) bits; bits = bits }

-- the cube that fits points, or the first axis that is too wide
abbrev pub fitted_cube : List PointValue → Result CubeValue Span
fitted_cube ps = option_map_or (λ span. Err span) (wide_axis ps) (Ok (cube_round ps (unwrap_or (fitted_bits ps) 31)))
