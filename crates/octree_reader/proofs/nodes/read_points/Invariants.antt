use Rattle.std.proofs.Common.{◌≡◌, ◌-◌, ◌≤◌, List, length, flat_map}
use Rattle.std.specs.List.{All}
use Rattle.octree_reader.specs.Nodes.{FileNode, IsNode, node_bytes, node_points}
use Rattle.octree_reader.proofs.NodeLaws.{NodesLeft}
use Rattle.octree_reader.proofs.nodes.read_points.Given as goal

abbrev pub invariant-loop-at : goal.invariant-loop-at
invariant-loop-at l = record {
  within : l.at ≤ length l.bytes;
  left : (nodes : List FileNode) → All IsNode nodes → l.bytes ≡ flat_map node_bytes nodes → NodesLeft l.bytes l.at l.points.items (flat_map node_points nodes);
}

abbrev pub decreases-loop-at : goal.decreases-loop-at
decreases-loop-at l = length l.bytes - l.at
