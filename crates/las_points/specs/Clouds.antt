-- Clouds, as contracts see them.
use Rattle.std.specs.Prelude.{ℕ, List}
use Rattle.cube_math.specs.Points.{PointValue}

-- the points of a file in their order, and the bytes of its scales and offsets
pub record CloudValue : Type 0 where
  pub points : List PointValue
  pub frame : List ℕ
