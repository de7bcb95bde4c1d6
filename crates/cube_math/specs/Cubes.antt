-- Cubes of space: which points they contain, their eight octants, and their 128 * 128 * 128 cells.
use Rattle.std.specs.Prelude.{ℕ, List, [], ◌∷◌, Bool, ◌&&◌, ℤ, pos, int_le, int_lt, ◌+ℤ◌, ◌-ℤ◌, unsigned_abs, ◌≤ℤ◌, ◌≤◌, ◌^◌, ◌+◌, ◌-◌, ◌*◌, ◌/◌, ◌%◌}
use Rattle.cube_math.specs.Points.{PointValue}

-- a cube as contracts see it: its origin, and the bits of its side 2 ^ bits
pub record CubeValue : Type 0 where
  pub ox : ℤ
  pub oy : ℤ
  pub oz : ℤ
  pub bits : ℕ

-- the cubes that fit the space of 32-bit coordinates: 7 to 31 bits, and no end above 2 ^ 31
pub record FitsSpace (ox oy oz : ℤ) (bits : ℕ) : Type 0 where
  pub bits_low : 7 ≤ bits
  pub bits_high : bits ≤ 31
  pub x_end : (ox +ℤ pos (2 ^ bits)) ≤ℤ pos (2 ^ 31)
  pub y_end : (oy +ℤ pos (2 ^ bits)) ≤ℤ pos (2 ^ 31)
  pub z_end : (oz +ℤ pos (2 ^ bits)) ≤ℤ pos (2 ^ 31)

-- whether an axis of 2 ^ bits places from o on has the coordinate
abbrev pub on_axis : ℤ → ℕ → ℤ → Bool
on_axis o bits x = int_le o x && int_lt x (o +ℤ pos (2 ^ bits))

-- whether a cube contains a point
abbrev pub contains : CubeValue → PointValue → Bool
contains c p = on_axis c.ox c.bits p.x && on_axis c.oy c.bits p.y && on_axis c.oz c.bits p.z

-- how far a coordinate lies from an origin that is not above it
abbrev pub distance : ℤ → ℤ → ℕ
distance o x = unsigned_abs (x -ℤ o)

-- 0 in the lower half of an axis, 1 in the upper
abbrev pub octant_bit : ℤ → ℕ → ℤ → ℕ
octant_bit o bits x = distance o x / 2 ^ (bits - 1)

-- the number of the octant in which a point lies
abbrev pub octant : CubeValue → PointValue → ℕ
octant c p = octant_bit c.ox c.bits p.x + 2 * octant_bit c.oy c.bits p.y + 4 * octant_bit c.oz c.bits p.z

-- the cube of an octant, half as wide
abbrev pub child : CubeValue → ℕ → CubeValue
child c g = record {
  ox = c.ox +ℤ pos (g % 2 * 2 ^ (c.bits - 1));
  oy = c.oy +ℤ pos (g / 2 % 2 * 2 ^ (c.bits - 1));
  oz = c.oz +ℤ pos (g / 4 * 2 ^ (c.bits - 1));
  bits = c.bits - 1;
}

-- the cube to which the octants of a path lead from a cube
abbrev pub cube_at : CubeValue → List ℕ → CubeValue
cube_at c [] = c
cube_at c (g ∷ path) = cube_at (child c g) path

-- the point in the middle of a cube
abbrev pub centre : CubeValue → ℤ × ℤ × ℤ
centre c = (c.ox +ℤ pos (2 ^ (c.bits - 1)), c.oy +ℤ pos (2 ^ (c.bits - 1)), c.oz +ℤ pos (2 ^ (c.bits - 1)))

-- the index, on an axis, of the cell of side 2 ^ (bits - 7) in which a coordinate lies
abbrev pub cell_index : ℤ → ℕ → ℤ → ℕ
cell_index o bits x = distance o x / 2 ^ (bits - 7)

-- the number of the cell in which a point lies
abbrev pub cell : CubeValue → PointValue → ℕ
cell c p = cell_index c.ox c.bits p.x + 128 * cell_index c.oy c.bits p.y + 16384 * cell_index c.oz c.bits p.z

-- the middle of a cell on an axis
abbrev pub cell_middle : ℤ → ℕ → ℕ → ℤ
cell_middle o bits index = o +ℤ pos (index * 2 ^ (bits - 7) + 2 ^ (bits - 8))

-- how far, on an axis, a coordinate lies from the middle of its cell
abbrev pub from_middle : ℤ → ℕ → ℤ → ℕ
from_middle o bits x = unsigned_abs (x -ℤ cell_middle o bits (cell_index o bits x))

-- a number times itself
abbrev pub square : ℕ → ℕ
square n = n * n

-- the square of the distance of a point from the middle of its cell
unfoldable pub far : CubeValue → PointValue → ℕ
far c p = square (from_middle c.ox c.bits p.x) + square (from_middle c.oy c.bits p.y) + square (from_middle c.oz c.bits p.z)

-- the key of a point in its cell: by distance from the middle, and at the same distance by colour number
abbrev pub key : CubeValue → PointValue → ℕ
key c p = far c p * 2 ^ 24 + p.rgb
