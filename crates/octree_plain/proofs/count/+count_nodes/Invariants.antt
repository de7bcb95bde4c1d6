use Rattle.std.proofs.Common.{◌≡◌, ◌+◌, ◌≤◌, drop, sum, map}
use Rattle.octree_model.specs.Counts.{nodes}
use Rattle.octree_plain.proofs.count.+count_nodes.Given as goal

abbrev pub decreases-count_nodes : goal.decreases-count_nodes
decreases-count_nodes l = nodes l.tree.now

abbrev pub invariant-loop-t : goal.invariant-loop-t
invariant-loop-t l = record {
  itself : 1 ≤ l.all;
  rest : l.all + sum (map nodes (drop l.t-index l.t-items)) ≡ nodes l.tree;
}
