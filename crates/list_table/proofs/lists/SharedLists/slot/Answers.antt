use Rattle.std.proofs.Common.{◌≡◌, sym, refl, ap, ◌∙◌, arith}
use Rattle.list_machine.specs.Layouts.{slot_place}
use Rattle.list_table.proofs.Follows.{SlotTold, slot_may}
use Rattle.list_table.specs.Ruled.{guest_of}
use Rattle.list_table.proofs.Steps.{guest_steps}
use Rattle.list_table.proofs.lists.SharedLists.slot.Goals as goal

pub load-requires-clause-allowed : goal.load-requires-clause-allowed
load-requires-clause-allowed c =
    let s = c.self.inside.desk.shared in
    let me = c.seat.inside.seat.me in
    let lists : c.args.self.now.lists ≡ s.key.lists = sym (ap (λ v. v.lists) c.self.view_is) ∙ sym (ap (λ z. z.lists) c.self.invariant.1) in
    let chunks : c.args.self.now.chunks ≡ s.key.chunks = sym (ap (λ v. v.chunks) c.self.view_is) ∙ sym (ap (λ z. z.chunks) c.self.invariant.1) in
    guest_steps s.key.lists s.key.chunks me c.slot_place-word.result (slot_place s.key.lists s.key.chunks c.args.chunk c.args.slot) (λ n. n) (λ n. n) (SlotTold (guest_of me.0) c.args.chunk c.args.slot) (c.slot_place-word.ensures ∙ (λ i. slot_place (lists i) (chunks i) c.args.chunk c.args.slot)) (λ n. refl) c.seat.invariant.seat_is
    (slot_may s.key.lists s.key.chunks (guest_of me.0) c.args.chunk c.args.slot (omega (arith, c.requires.chunk, chunks)) c.requires.slot)
    s.table_id.slots c.seat.inside.seat.id
