use Rattle.std.proofs.Common.{◌+◌, ◌*◌, ◌≤◌, drop, vec_len}
use Rattle.std.specs.Vec.{vec_capacity}
use Rattle.leaf_shape.specs.Tables.{missing}
use Rattle.leaf_shape.proofs.OpenLaws.{IsReached}
use Rattle.leaf_shape.proofs.node.open_node.Given as goal

abbrev pub invariant-loop-step : goal.invariant-loop-step
invariant-loop-step l = record {
  reached : IsReached l.fn.nodes.items l.nodes.items l.path l.step l.node;
  total : vec_len l.nodes + 8 * missing l.nodes.items l.node (drop l.step l.path) ≤ vec_len l.fn.nodes + 8 * missing l.fn.nodes.items 0 l.path;
  capacity : vec_capacity l.fn.nodes ≤ vec_capacity l.nodes;
}
