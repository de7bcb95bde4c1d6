use Rattle.std.proofs.Common.{◌≡◌, ◌+◌, ◌++◌, map, drop, length, vec_items}
use Rattle.octree_model.specs.Bags.{joined}
use Rattle.batch_bounds.specs.Batches.{batches, ends_from}
use Rattle.batch_bounds.proofs.ends.batch_ends.Given as goal

abbrev pub invariant-loop-cloud : goal.invariant-loop-cloud
invariant-loop-cloud l = record {
  ended : l.ends.items ++ ends_from l.start (batches l.size (map vec_items (drop l.cloud-index l.clouds))) ≡ ends_from 0 (batches l.size (map vec_items l.clouds));
  few : l.start + length (joined (map vec_items (drop l.cloud-index l.clouds))) ≡ length (joined (map vec_items l.clouds));
}
