-- How large the numbers of a spot get.
use Rattle.std.specs.Prelude.{ℕ, ◌<◌, ◌^◌, ℤ, unsigned_abs}

-- a square lies near enough, and its key is small enough, that no sum of them is too large
pub record IsSmall (left top : ℤ) (side key : ℕ) : Type 0 where
  pub left_small : unsigned_abs left < 2 ^ 52
  pub top_small : unsigned_abs top < 2 ^ 52
  pub side_small : side < 2 ^ 50
  pub key_small : key < 2 ^ 60
