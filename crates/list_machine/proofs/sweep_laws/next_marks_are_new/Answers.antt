-- The places that were claimed and used have their chunks, and a chunk stands once.
use Rattle.list_machine.proofs.Moves.{next_mark_is}
use Rattle.list_machine.proofs.Sweeps.{next_is_alone}
use Rattle.list_machine.proofs.sweep_laws.next_marks_are_new.Goals as goal

pub returns : goal.returns
returns c = record {
  slot = λ s l p f m a sound leaf shut some. next_mark_is s sound l p f m a leaf shut some;
  alone = λ s l c k p f m r q y z a sound leaf shut. next_is_alone s sound l p f m a leaf shut y z r q c k;
}
