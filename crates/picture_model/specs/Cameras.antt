-- The camera: where a position lies before it, and which cubes it shows by the nodes below them.
use Rattle.std.specs.Prelude.{ℕ, ◌*◌, ◌/◌, ◌^◌, ◌≤◌, Bool, ◌&&◌, ℤ, pos, negsuc, ◌+ℤ◌, ◌-ℤ◌, ◌*ℤ◌, int_le, int_lt, unsigned_abs}
use Rattle.std.specs.Int.{int_max}
use Rattle.cube_math.specs.Cubes.{CubeValue, centre}

-- a number for each axis
abbrev pub Triple : Type 0
Triple = ℤ × ℤ × ℤ

-- a camera as contracts see it: where it stands; how its right, its downward and its forward direction lie
-- along the axes, in 1/1024; and its numbers
pub record CameraValue : Type 0 where
  pub eye : Triple
  pub right : Triple
  pub down : Triple
  pub forward : Triple
  pub focal : ℕ
  pub near : ℕ
  pub width : ℕ
  pub height : ℕ
  pub threshold : ℕ
  pub dot : ℕ

-- the numbers of a row lie from -1024 to 1024
pub record IsRow (row : Triple) : Type 0 where
  pub x : unsigned_abs row.0 ≤ 1024
  pub y : unsigned_abs row.1 ≤ 1024
  pub z : unsigned_abs row.2 ≤ 1024

-- each number of a camera is in its range
pub record IsCamera (c : CameraValue) : Type 0 where
  pub right : IsRow c.right
  pub down : IsRow c.down
  pub forward : IsRow c.forward
  pub focal_low : 1 ≤ c.focal
  pub focal_high : c.focal ≤ 65536
  pub near_low : 1 ≤ c.near
  pub near_high : c.near ≤ 1000000000
  pub width_low : 1 ≤ c.width
  pub width_high : c.width ≤ 4096
  pub height_low : 1 ≤ c.height
  pub height_high : c.height ≤ 4096
  pub threshold_low : 1 ≤ c.threshold
  pub threshold_high : c.threshold ≤ 65536
  pub dot_low : 1 ≤ c.dot
  pub dot_high : c.dot ≤ 64

-- the quotient by a number above 0, rounded towards minus infinity
abbrev pub floor_over : ℤ → ℕ → ℤ
floor_over (pos n) d = pos (n / d)
floor_over (negsuc n) d = negsuc (n / d)

-- how far a position lies from the eye along a row
abbrev pub along : Triple → Triple → Triple → ℤ
along eye row p = floor_over (row.0 *ℤ (p.0 -ℤ eye.0) +ℤ row.1 *ℤ (p.1 -ℤ eye.1) +ℤ row.2 *ℤ (p.2 -ℤ eye.2)) 1024

-- how far a position lies to the right of the camera, below it and before it
abbrev pub seen_at : CameraValue → Triple → Triple
seen_at c p = (along c.eye c.right p, along c.eye c.down p, along c.eye c.forward p)

-- how far a position lies before the camera
abbrev pub depth : CameraValue → Triple → ℤ
depth c p = along c.eye c.forward p

-- whether a cube is shown by the nodes below its node: it does not end before the near plane, and its side
-- in the picture, at its nearest, is more pixels than the threshold
abbrev pub refines : CameraValue → CubeValue → Bool
refines c cube =
    let side = 2 ^ cube.bits in
    let middle = depth c (centre cube) in
    int_le (pos c.near) (middle +ℤ pos side)
    && int_lt (pos c.threshold *ℤ int_max (pos c.near) (middle -ℤ pos side)) (pos (side * c.focal))
