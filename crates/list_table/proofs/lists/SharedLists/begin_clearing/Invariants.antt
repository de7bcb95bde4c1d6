use Rattle.std.proofs.Common.{◌≡◌}
use Rattle.list_table.specs.OwnerMoves.{after_begin}
use Rattle.list_table.specs.Ruled.{ledger_of}
use Rattle.list_table.proofs.Steps.{OwnerTold}
use Rattle.list_table.proofs.lists.SharedLists.begin_clearing.Given as goal

abbrev pub ghosts-store : goal.ghosts-store
ghosts-store a = record { then = OwnerTold a.desk.now.shared.key.lists a.desk.now.shared.key.chunks (λ _ h. h ≡ after_begin (ledger_of a.seat.now.me.0) a._aim.list) }
