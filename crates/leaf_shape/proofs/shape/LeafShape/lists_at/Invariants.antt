use Rattle.std.proofs.Common.{take}
use Rattle.std.specs.List.{AllZip}
use Rattle.leaf_shape.specs.Shapes.{IsLatest}
use Rattle.leaf_shape.proofs.shape.LeafShape.lists_at.Given as goal

-- the lists of the first paths
abbrev pub invariant-loop-path : goal.invariant-loop-path
invariant-loop-path l = AllZip (IsLatest l.self.paths) (take l.path-index l.paths) l.lists.items
