use Rattle.std.proofs.Common.{◌≡◌}
use Rattle.batch_front.proofs.front.Front.wait.Given as goal

-- not served yet
abbrev pub invariant-loop : goal.invariant-loop
invariant-loop g l = (l.seat.table_id ≡ l.fn.seat.table_id) × (l.seat.me ≡ l.fn.seat.me)
