use Rattle.chunk_lists.proofs.Marking.{IsEmptying}
use Rattle.chunk_lists.proofs.sweeping.sweep_owned.Given as goal

abbrev pub invariant-loop-place : goal.invariant-loop-place
invariant-loop-place l = IsEmptying l.fn.seat l.seat l.list l.found l.place l.fn.out l.out
