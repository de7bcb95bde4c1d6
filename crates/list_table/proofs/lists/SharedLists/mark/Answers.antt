use Rattle.std.proofs.Common.{◌≡◌, bit_or, sym, refl, ap, ◌∙◌, subst, arith}
use Rattle.list_machine.specs.Layouts.{slot_place}
use Rattle.list_table.specs.OwnerMoves.{MayMark}
use Rattle.list_table.proofs.Marks.{MarkTold, mark_may}
use Rattle.list_table.specs.Ruled.{ledger_of}
use Rattle.list_table.proofs.Steps.{owner_steps}
use Rattle.list_table.proofs.lists.SharedLists.mark.Goals as goal

pub raise-requires-clause-allowed : goal.raise-requires-clause-allowed
raise-requires-clause-allowed c =
    let s = c.self.inside.desk.shared in
    let me = c.seat.inside.seat.me in
    let lists : c.args.self.now.lists ≡ s.key.lists = sym (ap (λ v. v.lists) c.self.view_is) ∙ sym (ap (λ z. z.lists) c.self.invariant.1) in
    let chunks : c.args.self.now.chunks ≡ s.key.chunks = sym (ap (λ v. v.chunks) c.self.view_is) ∙ sym (ap (λ z. z.chunks) c.self.invariant.1) in
    owner_steps s.key.lists s.key.chunks me c.slot_place-word.result (slot_place s.key.lists s.key.chunks c.args.chunk c.args.slot) (λ n. bit_or n 9223372036854775808) (λ n. bit_or n 9223372036854775808) (MarkTold (ledger_of me.0) c.args.list c.args.chunk c.args.slot) (c.slot_place-word.ensures ∙ (λ i. slot_place (lists i) (chunks i) c.args.chunk c.args.slot)) (λ n. refl) c.seat.invariant.seat_is
    (mark_may s.key.lists s.key.chunks (ledger_of me.0) c.args.list c.args.chunk c.args.slot (omega (arith, c.requires.list, lists)) (omega (arith, c.requires.chunk, chunks)) (subst (λ v. MayMark v.ledger c.args.list c.args.chunk c.args.slot) (sym c.seat.view_is) c.requires.next))
    s.table_id.slots c.seat.inside.seat.id
