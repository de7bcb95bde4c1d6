-- The octree of a list of points in a cube.
use Rattle.std.specs.Prelude.{ℕ, zero, suc, ◌-◌, List, length, map, filter, nat_le, if◌then◌else◌}
use Rattle.cube_math.specs.Points.{PointValue}
use Rattle.cube_math.specs.Cubes.{CubeValue, contains, child}
use Rattle.octree_model.specs.Numbers.{up_to}
use Rattle.octree_model.specs.Voxels.{voxels}
use Rattle.octree_model.specs.declared.tree.Tree.{Tree, Leaf, Inner}

-- the points that a cube contains, in order
abbrev pub inside : CubeValue → List PointValue → List PointValue
inside c ps = filter (contains c) ps

-- the octree with at most so many splits above one another: a leaf where few points lie in the cube,
-- and else a node with their number, their voxels and the octrees of its eight octants
unfoldable pub octree_at : ℕ → ℕ → CubeValue → List PointValue → Tree
octree_at leaf zero c ps = Leaf (inside c ps)
octree_at leaf (suc depth) c ps =
    let q = inside c ps in
    if nat_le (length q) leaf then Leaf q
    else Inner record { count = length q; voxels = voxels c q; trees = map (λ g. octree_at leaf depth (child c g) q) (up_to 8) }

-- the octree with a leaf limit: a cube of 7 bits is a leaf whatever lies in it
abbrev pub octree : ℕ → CubeValue → List PointValue → Tree
octree leaf c ps = octree_at leaf (c.bits - 7) c ps
