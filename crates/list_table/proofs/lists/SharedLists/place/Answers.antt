use Rattle.std.proofs.Common.{◌≡◌, ℕ, ◌+◌, sym, ap, ◌∙◌, subst, arith}
use Rattle.list_machine.specs.Layouts.{slot_place}
use Rattle.list_table.specs.OwnerMoves.{MayPlace, after_place}
use Rattle.list_table.proofs.Fills.{place_may}
use Rattle.list_table.specs.Ruled.{ledger_of}
use Rattle.list_table.proofs.Steps.{owner_steps}
use Rattle.list_table.proofs.lists.SharedLists.place.Goals as goal

pub store-requires-clause-allowed : goal.store-requires-clause-allowed
store-requires-clause-allowed c =
    let s = c.self.inside.desk.shared in
    let me = c.seat.inside.seat.me in
    let lists : c.args.self.now.lists ≡ s.key.lists = sym (ap (λ v. v.lists) c.self.view_is) ∙ sym (ap (λ z. z.lists) c.self.invariant.1) in
    let chunks : c.args.self.now.chunks ≡ s.key.chunks = sym (ap (λ v. v.chunks) c.self.view_is) ∙ sym (ap (λ z. z.chunks) c.self.invariant.1) in
    owner_steps s.key.lists s.key.chunks me c.slot_place-word.result (slot_place s.key.lists s.key.chunks c.args.chunk c.args.slot) (λ _. c.from.result + 1) (λ _. c.args.item + 1) (λ _ h. h ≡ after_place (ledger_of me.0) c.args.list c.args.chunk c.args.slot c.args.item) (c.slot_place-word.ensures ∙ (λ i. slot_place (lists i) (chunks i) c.args.chunk c.args.slot)) (λ n. ap (λ (x : ℕ). x + 1) c.from.ensures) c.seat.invariant.seat_is
    (place_may s.key.lists s.key.chunks (ledger_of me.0) c.args.list c.args.chunk c.args.slot c.args.item (omega (arith, c.requires.list, lists)) (omega (arith, c.requires.chunk, chunks)) (omega (arith, c.ranges.item)) (subst (λ v. MayPlace v.ledger c.args.list c.args.chunk c.args.slot) (sym c.seat.view_is) c.requires.next))
    s.table_id.slots c.seat.inside.seat.id
