-- The items by which a node is shown, from the points of its octree.
use Rattle.std.specs.Prelude.{List, map, if◌then◌else◌}
use Rattle.cube_math.specs.Points.{PointValue}
use Rattle.octree_model.specs.Octree.{inside}
use Rattle.octree_model.specs.Voxels.{voxels}
use Rattle.octree_model.specs.declared.outline.OutlineNode.{OutlineNode}
use Rattle.picture_model.specs.Items.{ItemValue, point_item, voxel_item}

-- a leaf is shown by the points in its cube, and an inner node by the voxels of these
abbrev pub shown_by : List PointValue → OutlineNode → List ItemValue
shown_by ps n = if n.inner then map (voxel_item n.cube) (voxels n.cube (inside n.cube ps)) else map point_item (inside n.cube ps)
