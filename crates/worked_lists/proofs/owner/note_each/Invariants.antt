use Rattle.std.proofs.Common.{◌≡◌}
use Rattle.worked_lists.proofs.owner.note_each.Given as goal

abbrev pub invariant-loop-list : goal.invariant-loop-list
invariant-loop-list g l = (l.owner.knife ≡ l.fn.owner.knife) × (l.owner.reader ≡ l.fn.owner.reader)
