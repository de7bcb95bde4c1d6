-- The places that were claimed and used have their chunks.
use Rattle.list_machine.proofs.Knowledge.{sweep_goes_on}
use Rattle.list_machine.proofs.laws.sweeps_go_on.Goals as goal

pub returns : goal.returns
returns c = λ s l p f m a sound. sweep_goes_on s.words s.owner s.guests sound l p f m a
