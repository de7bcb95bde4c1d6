use Rattle.std.proofs.Common.{◌≡◌, sym, refl, ap, ◌∙◌, subst, arith}
use Rattle.list_machine.specs.Layouts.{link_place}
use Rattle.list_machine.specs.declared.views.LinkWord.TheVariants.{OfList}
use Rattle.list_table.specs.OwnerMoves.{MayBegin, after_begin}
use Rattle.list_table.proofs.Clears.{begin_may}
use Rattle.list_table.specs.Ruled.{ledger_of}
use Rattle.list_table.proofs.Steps.{owner_steps}
use Rattle.list_table.proofs.lists.SharedLists.begin_clearing.Goals as goal

pub store-requires-clause-allowed : goal.store-requires-clause-allowed
store-requires-clause-allowed c =
    let s = c.self.inside.desk.shared in
    let me = c.seat.inside.seat.me in
    let lists : c.args.self.now.lists ≡ s.key.lists = sym (ap (λ v. v.lists) c.self.view_is) ∙ sym (ap (λ z. z.lists) c.self.invariant.1) in
    let chunks : c.args.self.now.chunks ≡ s.key.chunks = sym (ap (λ v. v.chunks) c.self.view_is) ∙ sym (ap (λ z. z.chunks) c.self.invariant.1) in
    owner_steps s.key.lists s.key.chunks me c.link_place-word.result (link_place s.key.lists c.args.list OfList) (λ _. 0) (λ _. 0) (λ _ h. h ≡ after_begin (ledger_of me.0) c.args.list) (c.link_place-word.ensures.place ∙ (λ i. link_place (lists i) c.args.list OfList)) (λ n. refl) c.seat.invariant.seat_is
    (begin_may s.key.lists s.key.chunks (ledger_of me.0) c.args.list (omega (arith, c.requires.list, lists)) (subst (λ v. MayBegin v.ledger c.args.list) (sym c.seat.view_is) c.requires.may))
    s.table_id.slots c.seat.inside.seat.id
