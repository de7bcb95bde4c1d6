-- What is kept of an octree for the batches to come.
use Rattle.std.specs.Prelude.{ℕ, ◌≡◌, zero, suc, ◌-◌, ◌<◌, ◌^◌, List, length, map, nat_le, if◌then◌else◌}
use Rattle.cube_math.specs.Points.{PointValue}
use Rattle.cube_math.specs.Cubes.{CubeValue, child}
use Rattle.leaf_counts.specs.Skeletons.{SkeletonValue, skeleton_of}
use Rattle.octree_model.specs.Numbers.{up_to}
use Rattle.octree_model.specs.Octree.{inside}
use Rattle.voxel_sampler.specs.Nears.{nears}
use Rattle.batch_levels.specs.declared.level.Level.{Level, Leaf, Inner}

-- what is kept of points with at most so many splits above one another: where few points lie in the cube these points,
-- and else their number, the least keys of their cells, and what is kept of them in each octant
unfoldable pub level_at : ℕ → ℕ → CubeValue → List PointValue → Level
level_at leaf zero c ps = Leaf (inside c ps)
level_at leaf (suc depth) c ps =
    let q = inside c ps in
    if nat_le (length q) leaf then Leaf q
    else Inner record { count = length q; runs = nears c q; levels = map (λ g. level_at leaf depth (child c g) q) (up_to 8) }

-- what is kept with a leaf limit: a cube of 7 bits has no inner node
abbrev pub level_of : ℕ → CubeValue → List PointValue → Level
level_of leaf c ps = level_at leaf (c.bits - 7) c ps

-- levels as contracts see them: the skeleton, the number of points, and the root
pub record LevelsValue : Type 0 where
  pub skeleton : SkeletonValue
  pub total : ℕ
  pub root : Level

-- the levels of these points
abbrev pub levels_of : ℕ → CubeValue → List PointValue → LevelsValue
levels_of leaf c ps = record { skeleton = skeleton_of leaf c ps; total = length ps; root = level_of leaf c ps }

-- these are all points of some levels
pub record AreAllOf (levels : LevelsValue) (points : List PointValue) : Type 0 where
  pub few : length points < 2 ^ 32
  pub is : levels ≡ levels_of levels.skeleton.leaf levels.skeleton.cube points

-- they are the levels of some list of fewer than 2 ^ 32 points
pub record AreLevels (levels : LevelsValue) : Type 0 where
  pub points : List PointValue
  pub all : AreAllOf levels points
