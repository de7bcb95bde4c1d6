use Rattle.list_table.specs.Ruled.{ledger_of}
use Rattle.list_table.proofs.Marks.{MarkTold}
use Rattle.list_table.proofs.Steps.{OwnerTold}
use Rattle.list_table.proofs.lists.SharedLists.mark.Given as goal

abbrev pub ghosts-raise : goal.ghosts-raise
ghosts-raise a = record { then = OwnerTold a.desk.now.shared.key.lists a.desk.now.shared.key.chunks (MarkTold (ledger_of a.seat.now.me.0) a._aim.list a._aim.chunk a._aim.slot) }
