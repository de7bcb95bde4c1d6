use Rattle.std.proofs.Common.{◌≡◌, ℕ, ◌<◌, cond, length, ap, sym, subst, ◌∙◌}
use Rattle.list_machine.specs.Words.{Word, one_more}
use Rattle.list_machine.specs.State.{Words, put_claim}
use Rattle.list_machine.specs.Moves.{guest_in}
use Rattle.list_machine.specs.Steps.{after_claim}
use Rattle.list_machine.specs.declared.views.Unfiled.TheVariants.{Nothing, Place}
use Rattle.world_words.specs.WordRows.{words_in}
use Rattle.world_lists.specs.Lists.{ListsValue, Shows}
use Rattle.world_lists.specs.ListsKept.{lists_of}
use Rattle.world_lists.specs.Seats.{bare, place_given, with_claim}
use Rattle.world_lists.proofs.SeatLaws.{given_is, seat_is, seats-set}
use Rattle.world_lists.proofs.lists.Lists.claim.Goals as goal

pub returns-clause-lists : goal.returns-clause-lists
returns-clause-lists c s shown =
    let j : ℕ = c.args.seat in
    let l : ℕ = c.args.list in
    let h : Shows (lists_of c.self.inside) s = subst (λ (v : ListsValue). Shows v s) (sym c.self.view_is) shown in
    let low : c.args.seat < length c.self.inside.seats.items = subst (λ (v : ListsValue). c.args.seat < length v.seats) (sym c.self.view_is) c.requires.seat in
    let was : c.index_mut-guest.result.now ≡ bare (guest_in s c.args.seat) = seat_is c.self.inside.seats.items s.guests c.args.seat c.index_mut-guest.result.now h.guests low c.index_mut-guest.ensures.value in
    let word : Word = (words_in c.self.inside.words).claim c.args.list in
    let given : place_given c.args.list c.claim-claimed.result ≡ cond (s.words.claim c.args.list).high Nothing (Place c.args.list (s.words.claim c.args.list).value) =
    given_is ((words_in c.self.inside.words).claim c.args.list).high c.args.list ((words_in c.self.inside.words).claim c.args.list).value c.claim-claimed.result c.claim-claimed.ensures.answer
    ∙ ap (λ (w : Words). cond (w.claim c.args.list).high Nothing (Place c.args.list (w.claim c.args.list).value)) h.words in
    let is : c.take.new.self ≡ bare (after_claim (guest_in s c.args.seat) c.args.list (s.words.claim c.args.list)) = c.take.ensures ∙ (λ i. with_claim (was i) (given i)) in
    record {
      words = c.claim-claimed.ensures.words.words ∙ ap (λ (w : Words). put_claim w c.args.list (one_more (w.claim c.args.list))) h.words;
      owner = h.owner;
      guests = seats-set c.self.inside.seats.items s.guests c.args.seat c.take.new.self (after_claim (guest_in s c.args.seat) c.args.list (s.words.claim c.args.list)) h.guests is;
    }
