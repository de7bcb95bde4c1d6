use Rattle.std.proofs.Common.{◌≡◌, [], true, sym, ap, refl, ◌∙◌, subst, arith}
use Rattle.atomic_table.specs.Table.{Joins}
use Rattle.list_table.specs.Ruled.{Sat, IsRuled, ledger_of, guest_of, ledger_after_join, taking_back, spent}
use Rattle.list_table.specs.declared.views.View.TheVariants.{Owns}
use Rattle.list_table.proofs.Names.{same_table}
use Rattle.list_table.proofs.Splits.{joins_may, confirm_may}
use Rattle.list_table.proofs.Steps.{owner_steps}
use Rattle.list_table.proofs.lists.SharedLists.take_back.Goals as goal

pub join_seat-requires : goal.join_seat-requires
join_seat-requires c =
    let s = c.self.inside.desk.shared in
    let y = c.self.inside.size in
    let seat = c.seat.inside in
    let guest = c.guest.inside in
    let words = c.self.invariant.0.words in (
      same_table seat.size.value.lists seat.size.value.chunks y.lists y.chunks seat.seat.table_id s.table_id (ap (λ v. v.name) c.seat.view_is ∙ (c.requires.owner ∙ sym (ap (λ v. v.name) c.self.view_is))),
      same_table guest.size.value.lists guest.size.value.chunks y.lists y.chunks guest.seat.table_id s.table_id (ap (λ v. v.name) c.guest.view_is ∙ (c.requires.guest ∙ sym (ap (λ v. v.name) c.self.view_is))),
      ap (λ (m : Sat). m.1) c.guest.invariant.seat_is,
      omega (arith, words),
      subst (λ (m : Sat). Joins (IsRuled s.key.lists s.key.chunks) seat.seat.id seat.seat.me.0 guest.seat.id m.0 (taking_back seat.seat.me.0 m.0) spent) (sym c.guest.invariant.seat_is)
          (joins_may s.key.lists s.key.chunks seat.seat.me (guest_of guest.seat.me.0) c.seat.invariant.seat_is (subst (λ v. v.guest.out ≡ true) (sym c.guest.view_is) c.requires.out) seat.seat.id guest.seat.id),
    )

pub load-requires-clause-allowed : goal.load-requires-clause-allowed
load-requires-clause-allowed c =
    let s = c.self.inside.desk.shared in
    let me = c.seat.inside.seat.me in
    let now = c.join_seat.new.seat.me in
    let v = c.guest.inside.seat.me.0 in
    let is : now ≡ (Owns (ledger_after_join (ledger_of me.0) (guest_of v)), []) = c.join_seat.ensures.2 ∙ ap (λ (m : Sat). (taking_back me.0 v, m.1)) c.seat.invariant.seat_is in
    owner_steps s.key.lists s.key.chunks now 0 0 (λ n. n) (λ n. n) (λ _ h. h ≡ ledger_of now.0) refl (λ n. refl) (is ∙ sym (ap (λ (m : Sat). (Owns (ledger_of m.0), [])) is))
    (confirm_may s.key.lists s.key.chunks (ledger_of now.0)) s.table_id.slots c.join_seat.new.seat.id
