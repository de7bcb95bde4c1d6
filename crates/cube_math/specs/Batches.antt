-- Batches of points.
use Rattle.std.specs.Prelude.{ℕ, List, length, All, IsTrue, ◌≤◌}
use Rattle.cube_math.specs.Points.{PointValue}
use Rattle.cube_math.specs.Cubes.{CubeValue, contains}

-- a batch as contracts see it
pub record BatchValue : Type 0 where
  pub input : ℕ
  pub points : List PointValue
  pub cube : CubeValue
  pub most : ℕ

-- some points, and not too many, each of which the cube contains
pub record IsBatch (points : List PointValue) (cube : CubeValue) (most : ℕ) : Type 0 where
  pub some : 1 ≤ length points
  pub few : length points ≤ most
  pub contained : All (λ p. IsTrue (contains cube p)) points
