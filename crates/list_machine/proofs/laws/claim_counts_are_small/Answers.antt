-- Of each list no more was claimed than was granted.
use Rattle.list_machine.proofs.Knowledge.{count_is_small}
use Rattle.list_machine.proofs.laws.claim_counts_are_small.Goals as goal

pub returns : goal.returns
returns c = λ s l a sound. count_is_small s.words s.owner s.guests sound l a
