use Rattle.std.proofs.Common.{◌≡◌}
use Rattle.worked_lists.proofs.owner.note_chunk.Given as goal

abbrev pub invariant-loop-slot : goal.invariant-loop-slot
invariant-loop-slot g l = l.reader ≡ l.fn.reader
