use Rattle.std.proofs.Common.{◌≡◌, ◌≤◌, ◌+◌, ◌++◌, drop, map, sum, flat_map}
use Rattle.octree_model.specs.Counts.{nodes}
use Rattle.octree_file.specs.Spelling.{spelling}
use Rattle.octree_file.proofs.writing.+write_tree.Given as goal

abbrev pub decreases-write_tree : goal.decreases-write_tree
decreases-write_tree l = nodes l.tree.now

abbrev pub invariant-loop-t : goal.invariant-loop-t
invariant-loop-t l = record {
  rest : 1 + sum (map nodes (drop l.t-index l.t-items)) ≤ nodes l.tree;
  written : l.out.items ++ flat_map spelling (drop l.t-index l.t-items) ≡ l.fn.out.items ++ spelling l.tree;
}
