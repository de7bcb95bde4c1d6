use Rattle.leaf_shape.proofs.FindLaws.{IsWayTo}
use Rattle.leaf_shape.proofs.node.find_node.Given as goal

abbrev pub invariant-loop-step : goal.invariant-loop-step
invariant-loop-step l = IsWayTo l.nodes l.path l.step l.node
