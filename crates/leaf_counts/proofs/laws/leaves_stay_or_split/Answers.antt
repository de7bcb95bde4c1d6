use Rattle.leaf_counts.proofs.LeafLaws.{leaves_stay, leaves_split}
use Rattle.leaf_counts.proofs.laws.leaves_stay_or_split.Goals as goal

pub returns : goal.returns
returns c = record { stay = leaves_stay; split = leaves_split }
