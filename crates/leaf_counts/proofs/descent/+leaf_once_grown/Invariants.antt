use Rattle.leaf_counts.proofs.descent.+leaf_once_grown.Given as goal

abbrev pub decreases-leaf_once_grown : goal.decreases-leaf_once_grown
decreases-leaf_once_grown l = l.cube.bits
