use Rattle.std.proofs.Common.{◌≡◌}
use Rattle.list_table.specs.OwnerMoves.{after_link, last_link}
use Rattle.list_table.specs.Ruled.{ledger_of}
use Rattle.list_table.proofs.Steps.{OwnerTold}
use Rattle.list_table.proofs.lists.SharedLists.link.Given as goal

abbrev pub ghosts-store : goal.ghosts-store
ghosts-store a = record { then = OwnerTold a.desk.now.shared.key.lists a.desk.now.shared.key.chunks (λ _ h. h ≡ after_link (ledger_of a.seat.now.me.0) a._aim.list (last_link a._aim.behind) a._aim.chunk) }
