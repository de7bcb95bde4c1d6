use Rattle.std.proofs.Common.{◌≡◌, ◌+◌}
use Rattle.list_table.proofs.Worked.{clearing}
use Rattle.list_table.proofs.tests.shut_and_clear.Given as goal

-- the link of the list and the slots so far are cleared
abbrev pub invariant-loop-slot : goal.invariant-loop-slot
invariant-loop-slot l = (l.owner.name ≡ l.fn.owner.name) × (l.owner.ledger ≡ clearing l.fn.item (l.slot + 1))
