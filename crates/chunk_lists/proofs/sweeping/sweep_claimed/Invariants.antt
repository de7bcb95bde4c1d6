use Rattle.chunk_lists.proofs.Marking.{IsSweeping}
use Rattle.chunk_lists.proofs.sweeping.sweep_claimed.Given as goal

abbrev pub invariant-loop-place : goal.invariant-loop-place
invariant-loop-place l = IsSweeping l.fn.seat l.seat l.list l.found l.place l.fn.out l.out
