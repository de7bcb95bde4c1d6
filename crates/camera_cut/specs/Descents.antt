-- The way of a camera down an octree.
use Rattle.std.specs.Prelude.{ℕ, ◌+◌, List, [], ◌∷◌, ◌++◌, map, if◌then◌else◌}
use Rattle.cube_math.specs.Cubes.{CubeValue, child}
use Rattle.picture_model.specs.Cameras.{CameraValue, refines}
use Rattle.picture_model.specs.Items.{ItemValue, point_item, voxel_item}
use Rattle.octree_model.specs.declared.tree.Tree.{Tree}
use Rattle.octree_model.specs.declared.tree.Tree.TheOpen.{Tree-F, InnerNode-F}
use Rattle.octree_model.specs.declared.tree.Tree.TheFolds.{fold-Tree}

-- the items seen of a tree, by the cube of its root
abbrev pub SeenIn : Type 0
SeenIn = CubeValue → List ItemValue

-- those of the children from octant g on, one after the other
abbrev pub children_seen : CubeValue → ℕ → List SeenIn → List ItemValue
children_seen c g [] = []
children_seen c g (t ∷ ts) = t (child c g) ++ children_seen c (g + 1) ts

abbrev pub tree_seen : Tree-F SeenIn SeenIn → SeenIn
tree_seen (Tree-F.Leaf ps) c = map point_item ps
tree_seen (Tree-F.Inner seen) c = seen c

abbrev pub node_seen : CameraValue → InnerNode-F SeenIn SeenIn → SeenIn
node_seen camera n c = if refines camera c then children_seen c 0 n.trees else map (voxel_item c) n.voxels

-- the points of a leaf, the voxels of an inner node that does not refine, and else what is seen of its children
abbrev pub seen_in : CameraValue → Tree → SeenIn
seen_in camera = fold-Tree SeenIn SeenIn tree_seen (node_seen camera)
