use Rattle.std.proofs.Common.{◌≡◌, ◌<◌, length, ap, sym, subst, ◌∙◌}
use Rattle.list_machine.specs.Moves.{guest_in}
use Rattle.list_machine.specs.Steps.{nobody}
use Rattle.list_machine.specs.declared.views.Guest.{Guest}
use Rattle.world_book.specs.Owners.{counted_off}
use Rattle.world_lists.specs.Lists.{ListsValue, Shows}
use Rattle.world_lists.specs.ListsKept.{lists_of}
use Rattle.world_lists.specs.Seats.{bare}
use Rattle.world_lists.proofs.SeatLaws.{seat_is, seats-set}
use Rattle.world_lists.proofs.lists.Lists.join.Goals as goal

pub returns : goal.returns
returns c s shown =
    let h : Shows (lists_of c.self.inside) s = subst (λ (v : ListsValue). Shows v s) (sym c.self.view_is) shown in
    let low : c.args.seat < length c.self.inside.seats.items = subst (λ (v : ListsValue). c.args.seat < length v.seats) (sym c.self.view_is) c.requires in
    let was : c.index_mut-guest.result.now ≡ bare (guest_in s c.args.seat) = seat_is c.self.inside.seats.items s.guests c.args.seat c.index_mut-guest.result.now h.guests low c.index_mut-guest.ensures.value in
    let birth : c.birth-birth.result ≡ (guest_in s c.args.seat).birth = c.birth-birth.ensures ∙ ap (λ (g : Guest). g.birth) was in
    record {
      words = h.words;
      owner = c.count_off.ensures ∙ (λ i. counted_off (h.owner i) (birth i));
      guests = seats-set c.self.inside.seats.items s.guests c.args.seat c.leave.new.self nobody h.guests c.leave.ensures;
    }
