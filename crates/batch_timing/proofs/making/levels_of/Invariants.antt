use Rattle.std.proofs.Common.{◌≡◌}
use Rattle.batch_timing.proofs.making.levels_of.Given as goal

abbrev pub invariant-loop-batch : goal.invariant-loop-batch
invariant-loop-batch l = l.levels.skeleton.cube ≡ l.fn.cube
