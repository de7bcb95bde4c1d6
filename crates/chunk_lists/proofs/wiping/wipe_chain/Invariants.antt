use Rattle.std.proofs.Common.{◌≡◌, ◌+◌, ◌*◌}
use Rattle.chunk_lists.specs.Wipes.{wiped_to}
use Rattle.chunk_lists.proofs.wiping.wipe_chain.Given as goal

abbrev pub invariant-loop-rank : goal.invariant-loop-rank
invariant-loop-rank l = (l.seat.name ≡ l.fn.seat.name) × (l.seat.ledger ≡ wiped_to l.fn.seat.ledger l.list (257 * (l.before + l.rank) + 1))
