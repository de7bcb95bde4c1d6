use Rattle.std.proofs.Common.{◌≡◌, ℕ, ◌+◌, ◌*◌}
use Rattle.chunk_lists.specs.Wipes.{AreWiped, wiped_to}
use Rattle.chunk_lists.proofs.wiping.wipe_chunk.Given as goal

abbrev pub invariant-loop-slot : goal.invariant-loop-slot
invariant-loop-slot l = (l.seat.name ≡ l.fn.seat.name) × ((r : ℕ) → AreWiped l.fn.seat.ledger l.list (257 * r + 1) → l.seat.ledger ≡ wiped_to l.fn.seat.ledger l.list (257 * r + l.slot + 1))
