-- Small octrees, and what the definition says of them.
use Rattle.std.proofs.Common.{◌≡◌, ◌∷◌, [], ℕ, refl, pos}
use Rattle.cube_math.specs.Points.{PointValue}
use Rattle.cube_math.specs.Cubes.{CubeValue, far}
use Rattle.octree_model.specs.Octree.{octree, octree_at}
use Rattle.octree_model.specs.Voxels.{voxels}
use Rattle.octree_model.specs.declared.tree.Tree.{Leaf, Inner}

-- a point with a colour number
abbrev point : ℕ → ℕ → ℕ → ℕ → PointValue
point x y z rgb = record { x = pos x; y = pos y; z = pos z; rgb = rgb }

-- the cube of side 256 at the origin, whose cells have side 2
abbrev cube : CubeValue
cube = record { ox = pos 0; oy = pos 0; oz = pos 0; bits = 8 }

-- three points are one more than the leaf limit: two voxels, and leaves with 2, 1 and no points
one_split : octree 2 cube (point 0 0 0 16777215 ∷ point 1 0 0 16777215 ∷ point 200 0 0 16777215 ∷ [])
    ≡ Inner record {
      count = 3;
      voxels = record { cell = 0; rgb = 16777215 } ∷ record { cell = 100; rgb = 16777215 } ∷ [];
      trees = Leaf (point 0 0 0 16777215 ∷ point 1 0 0 16777215 ∷ []) ∷ Leaf (point 200 0 0 16777215 ∷ []) ∷ Leaf [] ∷ Leaf [] ∷ Leaf [] ∷ Leaf [] ∷ Leaf [] ∷ Leaf [] ∷ [];
    }
unfolding octree_at voxels far
one_split = refl

-- as many points as the leaf limit stay a leaf
count_at_limit : octree 2 cube (point 0 0 0 16777215 ∷ point 200 0 0 16777215 ∷ []) ≡ Leaf (point 0 0 0 16777215 ∷ point 200 0 0 16777215 ∷ [])
unfolding octree_at
count_at_limit = refl

-- a cube of 7 bits stays a leaf whatever lies in it
least_cube : octree 1 record { ox = pos 9; oy = pos 9; oz = pos 9; bits = 7 } (point 9 9 9 0 ∷ point 9 9 9 0 ∷ point 9 9 9 1 ∷ []) ≡ Leaf (point 9 9 9 0 ∷ point 9 9 9 0 ∷ point 9 9 9 1 ∷ [])
unfolding octree_at
least_cube = refl

-- the cell has the colour of the point nearer to its middle, though the other one came first
colour_of_nearest : voxels cube (point 0 0 0 16777215 ∷ point 1 0 0 16711680 ∷ []) ≡ record { cell = 0; rgb = 16711680 } ∷ []
unfolding voxels far
colour_of_nearest = refl

-- of two points at the same distance from the middle the lesser colour number counts
colour_of_tie : voxels cube (point 1 0 1 65280 ∷ point 1 1 0 255 ∷ []) ≡ record { cell = 0; rgb = 255 } ∷ []
unfolding voxels far
colour_of_tie = refl
