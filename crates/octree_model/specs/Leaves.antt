-- The leaves of an octree.
use Rattle.std.specs.Prelude.{ℕ, List, not, filter}
use Rattle.cube_math.specs.Points.{PointValue}
use Rattle.cube_math.specs.Cubes.{CubeValue}
use Rattle.octree_model.specs.declared.outline.OutlineNode.{OutlineNode}
use Rattle.octree_model.specs.Octree.{octree}
use Rattle.octree_model.specs.Outlines.{outline}

-- the nodes of an outline that are leaves, in path order
abbrev pub leaves_of : List OutlineNode → List OutlineNode
leaves_of nodes = filter (λ (n : OutlineNode). not n.inner) nodes

-- the leaves of the octree with a leaf limit, in path order
abbrev pub leaves : ℕ → CubeValue → List PointValue → List OutlineNode
leaves leaf c ps = leaves_of (outline (octree leaf c ps) c)
