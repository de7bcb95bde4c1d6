use Rattle.std.proofs.Common.{◌≡◌, ◌+◌, ◌*◌, ◌<◌, ◌≤◌, ◌^◌, drop, sum, map}
use Rattle.octree_model.specs.Counts.{nodes}
use Rattle.octree_plain.specs.Summary.{leaf_count, inner_count, voxel_count, voxel_sum}
use Rattle.octree_plain.proofs.summary.+totals_of.Given as goal

abbrev pub decreases-totals_of : goal.decreases-totals_of
decreases-totals_of l = nodes l.tree.now

abbrev pub invariant-loop-t : goal.invariant-loop-t
invariant-loop-t l = record {
  leaves : l.all.leaves + sum (map leaf_count (drop l.t-index l.t-items)) ≡ leaf_count l.tree;
  inner : l.all.inner + sum (map inner_count (drop l.t-index l.t-items)) ≡ inner_count l.tree;
  voxels : l.all.voxels + sum (map voxel_count (drop l.t-index l.t-items)) ≡ voxel_count l.tree;
  sums : l.all.sum + sum (map voxel_sum (drop l.t-index l.t-items)) ≡ voxel_sum l.tree;
  fits : l.all.sum ≤ 2 ^ 25 * l.all.voxels;
  fewer : sum (map nodes (drop l.t-index l.t-items)) < nodes l.tree;
}
