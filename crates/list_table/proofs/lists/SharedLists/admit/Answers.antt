use Rattle.std.proofs.Common.{ℕ, sym, ap, ◌∙◌, subst}
use Rattle.list_machine.specs.Steps.{IsGrantable, newcomer}
use Rattle.list_table.specs.Ruled.{Sat, ledger_of, ledger_after_split, admitting, IsPossibleGuest}
use Rattle.list_table.proofs.Names.{same_lists, same_chunks}
use Rattle.list_table.proofs.Splits.{splits_may, split_possible, newcomer_possible, owner_seat, guest_seat}
use Rattle.list_table.proofs.lists.SharedLists.admit.Goals as goal

pub split-guest-requires-clause-splits : goal.split-guest-requires-clause-splits
split-guest-requires-clause-splits c =
    let s = c.self.inside.desk.shared in
    splits_may s.key.lists s.key.chunks c.seat.inside.seat.me c.args.grants.now c.seat.invariant.seat_is (subst (λ v. IsGrantable v.ledger.owner.book.leaves c.args.grants.now) (sym c.seat.view_is) c.requires.grants) c.seat.inside.seat.id

pub invariant_of-seat : goal.invariant_of-seat
invariant_of-seat c =
    let me = c.seat.inside.seat.me in let z = c.seat.inside.size.value in let gs = c.args.grants.now in
    owner_seat z.lists z.chunks c.split-guest.new.seat.me (ledger_after_split (ledger_of me.0) gs)
    (c.split-guest.ensures.owner ∙ ap (λ (m : Sat). (admitting gs me.0, m.1)) c.seat.invariant.seat_is)
    (split_possible z.lists z.chunks (ledger_of me.0) gs c.seat.invariant.possible (subst (λ v. IsGrantable v.ledger.owner.book.leaves gs) (sym c.seat.view_is) c.requires.grants))

pub invariant_of-result : goal.invariant_of-result
invariant_of-result c =
    let me = c.seat.inside.seat.me in let z = c.seat.inside.size.value in let y = c.self.inside.size in let gs = c.args.grants.now in
    let named = ap (λ v. v.name) c.seat.view_is ∙ (c.requires.name ∙ sym (ap (λ v. v.name) c.self.view_is)) in
    let lists = same_lists z.lists z.chunks y.lists y.chunks c.seat.inside.seat.table_id c.self.inside.desk.shared.table_id named ∙ sym (ap (λ x. x.lists) c.of.ensures) in
    let chunks = same_chunks z.lists z.chunks y.lists y.chunks c.seat.inside.seat.table_id c.self.inside.desk.shared.table_id named ∙ sym (ap (λ x. x.chunks) c.of.ensures) in
    guest_seat c.of.result.value.lists c.of.result.value.chunks c.split-guest.result.me (newcomer (ledger_of me.0).owner gs) c.split-guest.ensures.guest
    (subst (λ (x : ℕ × ℕ). IsPossibleGuest x.0 x.1 (newcomer (ledger_of me.0).owner gs)) (λ i. (lists i, chunks i))
    (newcomer_possible z.lists z.chunks (ledger_of me.0) gs c.seat.invariant.possible (subst (λ v. IsGrantable v.ledger.owner.book.leaves gs) (sym c.seat.view_is) c.requires.grants)))
