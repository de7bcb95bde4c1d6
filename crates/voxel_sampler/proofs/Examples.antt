-- A white point and a red one in one cell, of which the red one is the nearer to its middle.
use Rattle.std.proofs.Common.{◌≡◌, ◌∷◌, [], ℕ, refl, pos}
use Rattle.cube_math.specs.Points.{PointValue}
use Rattle.cube_math.specs.Cubes.{CubeValue, far}
use Rattle.octree_model.specs.Voxels.{voxels}
use Rattle.voxel_sampler.specs.Nears.{nears}
use Rattle.voxel_sampler.specs.Runs.{run_of}

-- a point on the first axis
abbrev point : ℕ → ℕ → PointValue
point x rgb = record { x = pos x; y = pos 0; z = pos 0; rgb = rgb }

abbrev white : PointValue
white = point 0 16777215

abbrev red : PointValue
red = point 1 16711680

-- the cube of side 256 at the origin, whose cells have side 2
abbrev cube : CubeValue
cube = record { ox = pos 0; oy = pos 0; oz = pos 0; bits = 8 }

-- the cell is new, and red
first_run : run_of [] cube (white ∷ red ∷ []) ≡ record { cell = 0; rgb = 16711680 } ∷ []
unfolding voxels far
first_run = refl

-- the same point again changes nothing
second_run : run_of (nears cube (white ∷ red ∷ [])) cube (red ∷ []) ≡ []
unfolding voxels nears far
second_run = refl
