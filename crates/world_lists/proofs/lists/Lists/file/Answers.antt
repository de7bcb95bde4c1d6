use Rattle.std.proofs.Common.{◌≡◌, ◌<◌, cond, length, refl, ap, sym, subst, ◌∙◌}
use Rattle.list_machine.specs.Words.{holding}
use Rattle.list_machine.specs.State.{Words, put_slot}
use Rattle.list_machine.specs.Moves.{guest_in, is_blank}
use Rattle.list_machine.specs.declared.views.Unfiled.TheVariants.{Nothing}
use Rattle.world_words.specs.WordRows.{words_in}
use Rattle.world_lists.specs.Lists.{ListsValue, Shows}
use Rattle.world_lists.specs.ListsKept.{lists_of}
use Rattle.world_lists.specs.Seats.{bare, with_claim}
use Rattle.world_lists.proofs.SeatLaws.{filing_shown, seat_is}
use Rattle.world_lists.proofs.lists.Lists.file.Goals as goal

pub returns-clause-lists : goal.returns-clause-lists
returns-clause-lists c list s shown =
    let h : Shows (lists_of c.self.inside) s = subst (λ (v : ListsValue). Shows v s) (sym c.self.view_is) shown in
    let low : c.args.seat < length c.self.inside.seats.items = subst (λ (v : ListsValue). c.args.seat < length v.seats) (sym c.self.view_is) c.requires.seat in
    let was : c.index_mut-guest.result.now ≡ bare (guest_in s c.args.seat) = seat_is c.self.inside.seats.items s.guests c.args.seat c.index_mut-guest.result.now h.guests low c.index_mut-guest.ensures.value in
    let words : words_in c.file-filed.new.self ≡ cond (is_blank (s.words.slot c.args.chunk c.args.slot)) (put_slot s.words c.args.chunk c.args.slot (holding c.args.item)) s.words =
    c.file-filed.ensures.words.words ∙ ap (λ (w : Words). cond (is_blank (w.slot c.args.chunk c.args.slot)) (put_slot w c.args.chunk c.args.slot (holding c.args.item)) w) h.words in
    filing_shown (is_blank (s.words.slot c.args.chunk c.args.slot)) (lists_of c.self.inside) _ s c.args.seat list c.args.chunk c.args.slot c.args.item c.settle.new.self h words refl refl (c.settle.ensures ∙ ap (λ g. with_claim g Nothing) was)
