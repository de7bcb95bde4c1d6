use Rattle.std.proofs.Common.{◌≡◌}
use Rattle.voxel_sampler.specs.Nears.{cells_of}
use Rattle.voxel_sampler.proofs.tests.batches_give_what_all_points_give.Given as goal

abbrev pub invariant-loop-batch : goal.invariant-loop-batch
invariant-loop-batch g l = l.grid.cells ≡ cells_of l.best
