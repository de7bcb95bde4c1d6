-- The points of published batches by item number.
use Rattle.std.specs.Prelude.{ℕ, ◌+◌, ◌-◌, ◌≤◌, ◌^◌, nat_le, List, [], ◌∷◌, length, All, AllPairs, Option, None, slice_get, if◌then◌else◌}
use Rattle.std.specs.Option.{option_or}
use Rattle.cube_math.specs.Points.{PointValue}

-- a batch: the number of its first item, and its points, whose items have the numbers from there on
pub record BatchItems : Type 0 where
  pub first : ℕ
  pub points : List PointValue

-- the number behind its last item
abbrev pub end_of : BatchItems → ℕ
end_of b = b.first + length b.points

-- batches in the order of their items: each ends before the later ones begin, so no two share an item; and items have numbers of
-- 32 bits
pub record AreInOrder (book : List BatchItems) : Type 0 where
  pub apart : AllPairs (λ (a b : BatchItems). end_of a ≤ b.first) book
  pub small : All (λ (b : BatchItems). end_of b ≤ 2 ^ 32) book

-- the point of an item, where a batch has it
abbrev pub point_in : BatchItems → ℕ → Option PointValue
point_in b item = if nat_le b.first item then slice_get b.points (item - b.first) else None

-- the point of an item, where one of some batches has it
abbrev pub point_of : List BatchItems → ℕ → Option PointValue
point_of [] item = None
point_of (b ∷ book) item = option_or (point_in b item) (point_of book item)
