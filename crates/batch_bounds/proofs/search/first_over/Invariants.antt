use Rattle.std.proofs.Common.{◌≡◌, ◌-◌, ◌<◌, ◌≤◌, ℕ, take, length, get_or}
use Rattle.octree_model.specs.Counts.{nodes}
use Rattle.octree_model.specs.Octree.{octree}
use Rattle.batch_bounds.proofs.search.first_over.Given as goal

abbrev pub decreases-loop-low : goal.decreases-loop-low
decreases-loop-low l = l.high - l.low

abbrev pub invariant-loop-low : goal.invariant-loop-low
invariant-loop-low l = record {
  within : l.high < length l.ends;
  ordered : l.low ≤ l.high;
  need : l.need ≡ nodes (octree l.fn.limits.leaf l.fn.cube (take (get_or l.fn.ends l.high 0) l.fn.points));
  over : l.fn.limits.nodes < l.need;
  below : (i : ℕ) → i < l.low → nodes (octree l.fn.limits.leaf l.fn.cube (take (get_or l.fn.ends i 0) l.fn.points)) ≤ l.fn.limits.nodes;
}
