use Rattle.std.proofs.Common.{◌≡◌}
use Rattle.leaf_counts.specs.Skeletons.{skeleton_of}
use Rattle.leaf_counts.proofs.tests.batches_give_what_all_points_give.Given as goal

abbrev pub invariant-loop-input : goal.invariant-loop-input
invariant-loop-input g l = record {
  kept : l.skeleton ≡ skeleton_of l.skeleton.leaf l.skeleton.cube l.points.items;
  cube : l.skeleton.cube ≡ l.cube;
}
