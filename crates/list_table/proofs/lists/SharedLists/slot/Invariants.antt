use Rattle.list_table.specs.Ruled.{guest_of}
use Rattle.list_table.proofs.Follows.{SlotTold}
use Rattle.list_table.proofs.Steps.{GuestTold}
use Rattle.list_table.proofs.lists.SharedLists.slot.Given as goal

abbrev pub ghosts-load : goal.ghosts-load
ghosts-load a = record { then = GuestTold a.desk.now.shared.key.lists a.desk.now.shared.key.chunks (SlotTold (guest_of a.seat.now.me.0) a._aim.chunk a._aim.slot) }
