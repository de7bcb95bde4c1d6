-- The octree that levels show.
use Rattle.std.specs.Prelude.{map}
use Rattle.octree_model.specs.declared.tree.Tree.{Tree, Leaf, Inner}
use Rattle.octree_model.specs.declared.tree.InnerNode.{InnerNode}
use Rattle.voxel_sampler.specs.Nears.{voxel_of}
use Rattle.batch_levels.specs.declared.level.Level.{Level}
use Rattle.batch_levels.specs.declared.level.Level.TheOpen.{Level-F, InnerLevel-F}
use Rattle.batch_levels.specs.declared.level.Level.TheFolds.{fold-Level}

-- a leaf with its points, or an inner node
abbrev pub shown_level : Level-F Tree InnerNode → Tree
shown_level (Level-F.Leaf ps) = Leaf ps
shown_level (Level-F.Inner n) = Inner n

-- an inner node: its count, its cells with the colours of their least keys, and the trees that the nodes below show
abbrev pub shown_inner : InnerLevel-F Tree InnerNode → InnerNode
shown_inner n = record { count = n.count; voxels = map voxel_of n.runs; trees = n.levels }

-- the octree that a node and those below it show
abbrev pub shown : Level → Tree
shown = fold-Level Tree InnerNode shown_level shown_inner
