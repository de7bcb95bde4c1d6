use Rattle.list_table.specs.OwnerMoves.{last_link}
use Rattle.list_table.specs.Ruled.{guest_of}
use Rattle.list_table.proofs.Follows.{FollowTold}
use Rattle.list_table.proofs.Steps.{GuestTold}
use Rattle.list_table.proofs.lists.SharedLists.follow.Given as goal

abbrev pub ghosts-load : goal.ghosts-load
ghosts-load a = record { then = GuestTold a.desk.now.shared.key.lists a.desk.now.shared.key.chunks (FollowTold a.desk.now.shared.key.chunks (guest_of a.seat.now.me.0) a._aim.list (last_link a._aim.behind) a._aim.number) }
