-- Points, as contracts see them.
use Rattle.std.specs.Prelude.{ℕ, ℤ}

-- three coordinates, and the colour number 65536 * red + 256 * green + blue
pub record PointValue : Type 0 where
  pub x : ℤ
  pub y : ℤ
  pub z : ℤ
  pub rgb : ℕ
