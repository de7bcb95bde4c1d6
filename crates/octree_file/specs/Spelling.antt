-- How a file spells a tree. Numbers are little endian.
use Rattle.std.specs.Prelude.{ℕ, ℤ, List, [], ◌∷◌, ◌++◌, length}
use Rattle.std.specs.Int.{w32, cast_unsigned}
use Rattle.std.specs.List.{flat_map}
use Rattle.byteorder.specs.Endian.{little_bytes}
use Rattle.cube_math.specs.Points.{PointValue}
use Rattle.octree_model.specs.Voxels.{VoxelValue}
use Rattle.octree_model.specs.declared.tree.Tree.{Tree}
use Rattle.octree_model.specs.declared.tree.Tree.TheOpen.{Tree-F, InnerNode-F}
use Rattle.octree_model.specs.declared.tree.Tree.TheFolds.{fold-Tree}
use Rattle.octree_file.specs.Order.{in_order}

-- a number in four bytes
abbrev pub u32_bytes : ℕ → List ℕ
u32_bytes n = little_bytes 4 n

-- a whole number in four bytes, as two's complement
abbrev pub i32_bytes : ℤ → List ℕ
i32_bytes x = u32_bytes (cast_unsigned w32 x)

-- a point: its coordinates and its colour number
abbrev pub point_bytes : PointValue → List ℕ
point_bytes p = i32_bytes p.x ++ i32_bytes p.y ++ i32_bytes p.z ++ u32_bytes p.rgb

-- a voxel: its cell and its colour number
abbrev pub voxel_bytes : VoxelValue → List ℕ
voxel_bytes v = u32_bytes v.cell ++ u32_bytes v.rgb

-- a leaf: a byte 0, how many points it has, and the points in order
abbrev pub leaf_bytes : List PointValue → List ℕ
leaf_bytes ps = 0 ∷ u32_bytes (length ps) ++ flat_map point_bytes (in_order ps)

-- a leaf, or the spelling of an inner node
abbrev pub tree_bytes : Tree-F (List ℕ) (List ℕ) → List ℕ
tree_bytes (Tree-F.Leaf ps) = leaf_bytes ps
tree_bytes (Tree-F.Inner spelled) = spelled

-- an inner node: a byte 1, how many voxels it has, the voxels, and its trees
abbrev pub node_bytes : InnerNode-F (List ℕ) (List ℕ) → List ℕ
node_bytes n = 1 ∷ u32_bytes (length n.voxels) ++ flat_map voxel_bytes n.voxels ++ flat_map (λ spelled. spelled) n.trees

-- the spelling of a tree: each node before the nodes below it
abbrev pub spelling : Tree → List ℕ
spelling = fold-Tree (List ℕ) (List ℕ) tree_bytes node_bytes
