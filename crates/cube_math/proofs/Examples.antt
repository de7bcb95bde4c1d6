-- A few points and cubes, and what the definitions say of them.
use Rattle.std.proofs.Common.{◌≡◌, ◌∷◌, [], Some, true, ℤ, refl, pos, negsuc}
use Rattle.cube_math.specs.Points.{PointValue}
use Rattle.cube_math.specs.Cubes.{CubeValue, contains, octant, cell, far}
use Rattle.cube_math.specs.Refusals.{refusal}
use Rattle.cube_math.specs.declared.batch.BatchRefusal.TheVariants.{Empty, TooMany, Outside}

-- a white point
abbrev white : ℤ → ℤ → ℤ → PointValue
white x y z = record { x = x; y = y; z = z; rgb = 16777215 }

-- a cube of side 1024 from -512, 0, 0 on, whose cells have side 8
abbrev around : CubeValue
around = record { ox = negsuc 511; oy = pos 0; oz = pos 0; bits = 10 }

-- the cube of side 2 ^ 31 that ends with the space, and its last point
abbrev upper : CubeValue
upper = record { ox = pos 0; oy = pos 0; oz = pos 0; bits = 31 }

abbrev last : PointValue
last = white (pos 2147483647) (pos 2147483647) (pos 2147483647)

-- a point in the middle of the cell of indices 0, 64 and 1
middle_of_cell : (octant around (white (negsuc 507) (pos 516) (pos 12)) ≡ 2) × (cell around (white (negsuc 507) (pos 516) (pos 12)) ≡ 24576) × (far around (white (negsuc 507) (pos 516) (pos 12)) ≡ 0)
unfolding far
middle_of_cell = (refl, refl, refl)

-- the last point of the space lies in the last cell, on each axis 2 ^ 23 - 1 from its middle
last_of_space : (contains upper last ≡ true) × (octant upper last ≡ 7) × (cell upper last ≡ 2097151) × (far upper last ≡ 211106182201347)
unfolding far
last_of_space = (refl, refl, refl, refl)

-- no point comes before too many, and too many before the first outside
refused_in_order : (refusal [] around 0 ≡ Some Empty) × (refusal (white (pos 512) (pos 0) (pos 0) ∷ white (pos 0) (pos 0) (pos 0) ∷ []) around 1 ≡ Some (TooMany 2 1))
    × (refusal (white (pos 0) (pos 0) (pos 0) ∷ white (pos 0) (pos 1024) (pos 0) ∷ white (pos 512) (pos 0) (pos 0) ∷ []) around 3 ≡ Some (Outside 1))
refused_in_order = (refl, refl, refl)
