use Rattle.std.proofs.Common.{◌≡◌}
use Rattle.worked_lists.proofs.owner.wait_for_items.Given as goal

abbrev pub invariant-loop-look : goal.invariant-loop-look
invariant-loop-look g l = l.owner ≡ l.fn.owner
