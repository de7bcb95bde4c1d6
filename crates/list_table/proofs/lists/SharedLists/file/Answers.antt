use Rattle.std.proofs.Common.{◌≡◌, ℕ, ◌+◌, ◌%◌, eqb, sym, ap, ◌∙◌, subst, arith}
use prog.Atomic.{either}
use Rattle.list_machine.specs.Layouts.{slot_place}
use Rattle.list_table.specs.GuestMoves.{MayFile, after_file}
use Rattle.list_table.proofs.Fills.{file_may}
use Rattle.list_table.specs.Ruled.{guest_of}
use Rattle.list_table.proofs.Steps.{guest_steps}
use Rattle.list_table.proofs.lists.SharedLists.file.Goals as goal

pub fill-found-requires-clause-allowed : goal.fill-found-requires-clause-allowed
fill-found-requires-clause-allowed c =
    let s = c.self.inside.desk.shared in
    let me = c.seat.inside.seat.me in
    let lists : c.args.self.now.lists ≡ s.key.lists = sym (ap (λ v. v.lists) c.self.view_is) ∙ sym (ap (λ z. z.lists) c.self.invariant.1) in
    let chunks : c.args.self.now.chunks ≡ s.key.chunks = sym (ap (λ v. v.chunks) c.self.view_is) ∙ sym (ap (λ z. z.chunks) c.self.invariant.1) in
    guest_steps s.key.lists s.key.chunks me c.slot_place-word.result (slot_place s.key.lists s.key.chunks c.args.chunk (c.args.place % 256)) (λ n. either (eqb n 0) (c.from.result + 1) n) (λ n. either (eqb n 0) (c.args.item + 1) n) (λ n u. u ≡ after_file (guest_of me.0) c.args.list c.args.chunk (c.args.place % 256) c.args.item (eqb n 0)) (c.slot_place-word.ensures ∙ (λ i. slot_place (lists i) (chunks i) c.args.chunk (c.args.place % 256))) (λ n. ap (λ (x : ℕ). either (eqb n 0) (x + 1) n) c.from.ensures) c.seat.invariant.seat_is
    (file_may s.key.lists s.key.chunks (guest_of me.0) c.args.list c.args.place c.args.chunk (c.args.place % 256) c.args.item (omega (arith, c.requires.chunk, chunks)) (omega (arith, c.ranges.item)) (subst (λ v. MayFile v.guest c.args.list c.args.place c.args.chunk (c.args.place % 256)) (sym c.seat.view_is) c.requires.claimed))
    s.table_id.slots c.seat.inside.seat.id
