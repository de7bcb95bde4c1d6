use Rattle.list_table.specs.Ruled.{ledger_of}
use Rattle.list_table.proofs.Shuts.{ShutTold}
use Rattle.list_table.proofs.Steps.{OwnerTold}
use Rattle.list_table.proofs.lists.SharedLists.shut.Given as goal

abbrev pub ghosts-raise : goal.ghosts-raise
ghosts-raise a = record { then = OwnerTold a.desk.now.shared.key.lists a.desk.now.shared.key.chunks (ShutTold (ledger_of a.seat.now.me.0) a.word) }
