use Rattle.std.proofs.Common.{◌≡◌, ◌+◌, ◌-◌, ◌^◌, ◌≤◌, map, drop, length, vec_items}
use Rattle.octree_model.specs.Bags.{joined}
use Rattle.simlod_app.proofs.octree.are_few.Given as goal

abbrev pub invariant-loop-cloud : goal.invariant-loop-cloud
invariant-loop-cloud l = record {
  within : l.left ≤ 2 ^ 32 - 1;
  taken : (2 ^ 32 - 1 - l.left) + length (joined (map vec_items (drop l.cloud-index l.clouds))) ≡ length (joined (map vec_items l.clouds));
}
