use Rattle.std.proofs.Common.{◌≡◌, ℕ, ◌+◌, ◌*◌, ◌%◌, ◌<◌, length, sym, ap, ◌∙◌, subst, arith}
use Rattle.list_machine.specs.Words.{link_to}
use Rattle.list_machine.specs.Facts.{LeadsTo}
use Rattle.list_machine.specs.Layouts.{link_place}
use Rattle.list_table.specs.Ledgers.{leaf_of}
use Rattle.list_table.specs.OwnerMoves.{MayExtend, after_link, last_link}
use Rattle.list_table.proofs.Extends.{link_may}
use Rattle.list_table.proofs.Frames.{last_some}
use Rattle.list_table.specs.Ruled.{ledger_of}
use Rattle.list_table.proofs.Steps.{owner_steps}
use Rattle.list_table.proofs.lists.SharedLists.link.Goals as goal

pub store-requires-clause-allowed : goal.store-requires-clause-allowed
store-requires-clause-allowed c =
    let s = c.self.inside.desk.shared in
    let me = c.seat.inside.seat.me in
    let lists : c.args.self.now.lists ≡ s.key.lists = sym (ap (λ v. v.lists) c.self.view_is) ∙ sym (ap (λ z. z.lists) c.self.invariant.1) in
    let chunks : c.args.self.now.chunks ≡ s.key.chunks = sym (ap (λ v. v.chunks) c.self.view_is) ∙ sym (ap (λ z. z.chunks) c.self.invariant.1) in
    let rank : c.args.rank ≡ length (leaf_of (ledger_of me.0) c.args.list).claimed = c.requires.rank ∙ sym (ap (λ v. length (leaf_of v.ledger c.args.list).claimed) c.seat.view_is) in
    let known : c.args.self.now.chunks < 4294967296 = c.link_place-word.ensures.few in
    let number : c.from.result * 4294967296 % 18446744073709551616 + c.from-2.result + 1 ≡ link_to (length (leaf_of (ledger_of me.0) c.args.list).claimed) c.args.chunk = omega (arith, rank, c.from.ensures, c.from-2.ensures, c.ranges.rank) in
    owner_steps s.key.lists s.key.chunks me c.link_place-word.result (link_place s.key.lists c.args.list (last_link c.args.behind)) (λ _. c.from.result * 4294967296 % 18446744073709551616 + c.from-2.result + 1) (λ _. link_to (length (leaf_of (ledger_of me.0) c.args.list).claimed) c.args.chunk) (λ _ h. h ≡ after_link (ledger_of me.0) c.args.list (last_link c.args.behind) c.args.chunk) (c.link_place-word.ensures.place ∙ (λ i. link_place (lists i) c.args.list (last_link c.args.behind))) (λ n. number) c.seat.invariant.seat_is
    (link_may s.key.lists s.key.chunks (ledger_of me.0) c.args.list c.args.chunk (last_link c.args.behind) (omega (arith, c.requires.list, lists)) (omega (arith, c.requires.chunk, chunks)) (omega (arith, c.requires.chunk, known)) (λ b e. let small = c.requires.behind b (last_some c.args.behind b e) in omega (arith, small, chunks))
    (subst (λ (r : ℕ). LeadsTo (leaf_of (ledger_of me.0) c.args.list).claimed (last_link c.args.behind) r) rank (subst (λ v. LeadsTo (leaf_of v.ledger c.args.list).claimed (last_link c.args.behind) c.args.rank) (sym c.seat.view_is) c.requires.last))
    (subst (λ v. MayExtend v.ledger c.args.list c.args.chunk) (sym c.seat.view_is) c.requires.free))
    s.table_id.slots c.seat.inside.seat.id

pub overflow_add-link-2 : goal.overflow_add-link-2
overflow_add-link-2 c = omega (arith, c.ranges.rank, c.requires.chunk, c.link_place-word.ensures.few, c.from.ensures, c.from-2.ensures)
