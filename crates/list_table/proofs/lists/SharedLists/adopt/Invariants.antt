use Rattle.std.proofs.Common.{◌≡◌}
use Rattle.list_table.specs.OwnerMoves.{after_adopt}
use Rattle.list_table.specs.Ruled.{ledger_of}
use Rattle.list_table.proofs.Steps.{OwnerTold}
use Rattle.list_table.proofs.lists.SharedLists.adopt.Given as goal

abbrev pub ghosts-load : goal.ghosts-load
ghosts-load a = record { then = OwnerTold a.desk.now.shared.key.lists a.desk.now.shared.key.chunks (λ _ h. h ≡ after_adopt (ledger_of a.seat.now.me.0) a._aim.list a._aim.chunk) }
