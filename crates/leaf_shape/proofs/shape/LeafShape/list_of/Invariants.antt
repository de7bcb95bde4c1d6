use Rattle.leaf_shape.proofs.WalkLaws.{IsAt}
use Rattle.leaf_shape.proofs.shape.LeafShape.list_of.Given as goal

abbrev pub invariant-loop-node : goal.invariant-loop-node
invariant-loop-node l = IsAt l.self-inside.cube l.self-inside.nodes.items l.self-inside.paths.items l.p l.node l.cube l.list

abbrev pub decreases-loop-node : goal.decreases-loop-node
decreases-loop-node l = l.cube.bits
