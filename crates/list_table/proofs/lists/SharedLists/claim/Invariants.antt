use Rattle.list_table.specs.Ruled.{guest_of}
use Rattle.list_table.proofs.Claims.{ClaimTold}
use Rattle.list_table.proofs.Steps.{GuestTold}
use Rattle.list_table.proofs.lists.SharedLists.claim.Given as goal

abbrev pub ghosts-add_one : goal.ghosts-add_one
ghosts-add_one a = record { then = GuestTold a.desk.now.shared.key.lists a.desk.now.shared.key.chunks (ClaimTold (guest_of a.seat.now.me.0) a.word) }
