use Rattle.std.proofs.Common.{◌≡◌, ◌++◌, drop, map}
use Rattle.octree_model.specs.Outlines.{outline_at, children_outline}
use Rattle.octree_plain.proofs.outlines.+add_outline.Given as goal

abbrev pub decreases-add_outline : goal.decreases-add_outline
decreases-add_outline l = l.cube.bits

abbrev pub invariant-loop-g : goal.invariant-loop-g
invariant-loop-g l =
    l.nodes.items ++ children_outline l.path l.cube l.g (map outline_at (drop l.g l.t-items)) ≡ l.fn.nodes.items ++ outline_at l.tree l.path l.cube
