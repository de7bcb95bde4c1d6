-- The nodes of a file: behind its head they stand in path order, one after the other.
use Rattle.std.specs.Prelude.{ℕ, ◌<◌, ◌^◌, List, [], ◌∷◌, ◌++◌, length, All}
use Rattle.std.specs.List.{flat_map}
use Rattle.cube_math.specs.Points.{PointValue}
use Rattle.octree_model.specs.Voxels.{VoxelValue}
use Rattle.octree_file.specs.Order.{IsPoint}
use Rattle.octree_file.specs.Spelling.{point_bytes, u32_bytes, voxel_bytes}

-- a node as it stands in a file: a leaf with its points, or what an inner node has before its trees
pub data FileNode : Type 0 where
  LeafOf : List PointValue → FileNode
  InnerOf : List VoxelValue → FileNode

-- how a node is spelled
abbrev pub node_bytes : FileNode → List ℕ
node_bytes (LeafOf ps) = 0 ∷ u32_bytes (length ps) ++ flat_map point_bytes ps
node_bytes (InnerOf vs) = 1 ∷ u32_bytes (length vs) ++ flat_map voxel_bytes vs

-- the points of a node
abbrev pub node_points : FileNode → List PointValue
node_points (LeafOf ps) = ps
node_points (InnerOf vs) = []

-- a node of a file: points, or voxels, of which there are few
abbrev pub IsNode : FileNode → Type 0
IsNode (LeafOf ps) = All IsPoint ps × (length ps < 2 ^ 32)
IsNode (InnerOf vs) = length vs < 2 ^ 32
