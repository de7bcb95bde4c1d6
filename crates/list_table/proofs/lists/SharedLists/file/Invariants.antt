use Rattle.std.proofs.Common.{◌≡◌, eqb}
use Rattle.list_table.specs.GuestMoves.{after_file}
use Rattle.list_table.specs.Ruled.{guest_of}
use Rattle.list_table.proofs.Steps.{GuestTold}
use Rattle.list_table.proofs.lists.SharedLists.file.Given as goal

abbrev pub ghosts-fill : goal.ghosts-fill
ghosts-fill a = record { then = GuestTold a.desk.now.shared.key.lists a.desk.now.shared.key.chunks (λ n u. u ≡ after_file (guest_of a.seat.now.me.0) a._aim.list a._aim.chunk a._aim.slot a._aim.number (eqb n 0)) }
