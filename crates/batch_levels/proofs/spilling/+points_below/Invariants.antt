use Rattle.std.proofs.Common.{◌-◌, length}
use Rattle.batch_levels.proofs.spilling.+points_below.Given as goal

abbrev pub decreases-points_below : goal.decreases-points_below
decreases-points_below l = length l.path.now - l.steps
