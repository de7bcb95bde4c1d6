use Rattle.std.proofs.Common.{◌-◌, length}
use Rattle.leaf_counts.proofs.descent.+count_below.Given as goal

abbrev pub decreases-count_below : goal.decreases-count_below
decreases-count_below l = length l.path.now - l.steps
