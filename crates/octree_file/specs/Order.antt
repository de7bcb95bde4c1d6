-- The order in which a file has the points of a leaf.
use Rattle.std.specs.Prelude.{ℕ, ℤ, negsuc, FitsSigned, ◌+◌, ◌*◌, ◌^◌, ◌<◌, List, [], ◌∷◌, nat_lt, if◌then◌else◌}
use Rattle.std.specs.Int.{w32}
use Rattle.cube_math.specs.Points.{PointValue}
use Rattle.cube_math.specs.Cubes.{distance}

-- a coordinate is a whole number of 32 bits
abbrev pub IsCoordinate : ℤ → Type 0
IsCoordinate x = FitsSigned w32 x

-- a point has three coordinates, and a colour number below 2 ^ 24
pub record IsPoint (p : PointValue) : Type 0 where
  pub x : IsCoordinate p.x
  pub y : IsCoordinate p.y
  pub z : IsCoordinate p.z
  pub rgb : p.rgb < 2 ^ 24

-- how far a coordinate lies above the lowest one
abbrev pub above_lowest : ℤ → ℕ
above_lowest x = distance (negsuc 2147483647) x

-- the number that orders points: by x, at the same x by y, then by z, and at last by colour number
unfoldable pub order_key : PointValue → ℕ
order_key p = ((above_lowest p.x * 2 ^ 32 + above_lowest p.y) * 2 ^ 32 + above_lowest p.z) * 2 ^ 24 + p.rgb

-- a point more in a list in order, before the first that is not below it
abbrev pub with_point : PointValue → List PointValue → List PointValue
with_point p [] = p ∷ []
with_point p (q ∷ qs) = if nat_lt (order_key q) (order_key p) then q ∷ with_point p qs else p ∷ q ∷ qs

-- the points of a list in order
abbrev pub in_order : List PointValue → List PointValue
in_order [] = []
in_order (p ∷ ps) = with_point p (in_order ps)
