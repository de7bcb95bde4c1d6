use Rattle.std.proofs.Common.{◌≡◌, sym, refl, ap, ◌∙◌, subst, arith}
use Rattle.list_table.specs.OwnerMoves.{MayExtend, after_adopt}
use Rattle.list_table.proofs.Extends.{adopt_may}
use Rattle.list_table.specs.Ruled.{ledger_of}
use Rattle.list_table.proofs.Steps.{owner_steps}
use Rattle.list_table.proofs.lists.SharedLists.adopt.Goals as goal

pub load-requires-clause-allowed : goal.load-requires-clause-allowed
load-requires-clause-allowed c =
    let s = c.self.inside.desk.shared in
    let me = c.seat.inside.seat.me in
    let lists : c.args.self.now.lists ≡ s.key.lists = sym (ap (λ v. v.lists) c.self.view_is) ∙ sym (ap (λ z. z.lists) c.self.invariant.1) in
    let chunks : c.args.self.now.chunks ≡ s.key.chunks = sym (ap (λ v. v.chunks) c.self.view_is) ∙ sym (ap (λ z. z.chunks) c.self.invariant.1) in
    let number = c.self.invariant.0.few in
    owner_steps s.key.lists s.key.chunks me 0 0 (λ n. n) (λ n. n) (λ _ h. h ≡ after_adopt (ledger_of me.0) c.args.list c.args.chunk) refl (λ n. refl) c.seat.invariant.seat_is
    (adopt_may s.key.lists s.key.chunks (ledger_of me.0) c.args.list c.args.chunk (omega (arith, c.requires.list, lists)) (omega (arith, c.requires.chunk, chunks)) (omega (arith, c.requires.chunk, chunks, number, ap (λ z. z.chunks) c.self.invariant.1)) (subst (λ v. MayExtend v.ledger c.args.list c.args.chunk) (sym c.seat.view_is) c.requires.free))
    s.table_id.slots c.seat.inside.seat.id
