use Rattle.std.proofs.Common.{◌-◌, length}
use Rattle.leaf_counts.proofs.tests.+agreeing_nodes.Given as goal

abbrev pub decreases-agreeing_nodes : goal.decreases-agreeing_nodes
decreases-agreeing_nodes l = 24 - length l.path
