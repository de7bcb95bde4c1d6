use Rattle.std.proofs.Common.{◌≡◌}
use Rattle.batch_levels.proofs.tests.batches_give_the_octree_of_all_points.Given as goal

abbrev pub invariant-loop-many : goal.invariant-loop-many
invariant-loop-many g l = l.cube ≡ l.levels.skeleton.cube
