use Rattle.std.proofs.Common.{◌≤◌, length, subst}
use Rattle.list_machine.specs.Walks.{IsWalk}
use Rattle.list_table.specs.Ruled.{guest_of}
use Rattle.list_table.proofs.Knowing.{walks_short}
use Rattle.list_table.proofs.seats.GuestSeat.walks_are_short.Goals as goal

pub returns : goal.returns
returns c most walked walk = let z = c.self.inside.size.value in
    walks_short z.lists z.chunks (guest_of c.self.inside.seat.me.0) c.self.invariant.possible most walked (subst (λ v. IsWalk v.guest most walked) (Rattle.std.proofs.Common.sym c.self.view_is) walk)
