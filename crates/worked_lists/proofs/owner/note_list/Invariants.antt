use Rattle.std.proofs.Common.{◌≡◌}
use Rattle.worked_lists.proofs.owner.note_list.Given as goal

abbrev pub invariant-loop-chunk : goal.invariant-loop-chunk
invariant-loop-chunk g l = l.reader ≡ l.fn.owner.reader
