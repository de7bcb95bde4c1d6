use Rattle.std.proofs.Common.{◌≡◌, ◌+◌, ◌%◌, ◌<◌, sym, refl, ap, ◌∙◌, subst, arith}
use Rattle.list_machine.specs.Grants.{granted_in}
use Rattle.list_machine.specs.declared.views.Unfiled.TheVariants.{Nothing}
use Rattle.list_table.proofs.Claims.{ClaimTold, claim_may}
use Rattle.list_table.specs.Ruled.{guest_of}
use Rattle.list_table.proofs.Steps.{guest_steps}
use Rattle.list_table.proofs.lists.SharedLists.claim.Goals as goal

pub add_one-found-requires-clause-allowed : goal.add_one-found-requires-clause-allowed
add_one-found-requires-clause-allowed c =
    let s = c.self.inside.desk.shared in
    let me = c.seat.inside.seat.me in
    let lists : c.args.self.now.lists ≡ s.key.lists = sym (ap (λ v. v.lists) c.self.view_is) ∙ sym (ap (λ z. z.lists) c.self.invariant.1) in
    let chunks : c.args.self.now.chunks ≡ s.key.chunks = sym (ap (λ v. v.chunks) c.self.view_is) ∙ sym (ap (λ z. z.chunks) c.self.invariant.1) in
    guest_steps s.key.lists s.key.chunks me c.args.list c.args.list (λ n. (n + 1) % 18446744073709551616) (λ n. (n + 1) % 18446744073709551616) (ClaimTold (guest_of me.0) c.args.list) refl (λ n. refl) c.seat.invariant.seat_is
    (claim_may s.key.lists s.key.chunks (guest_of me.0) c.args.list (omega (arith, c.requires.list, lists)) (subst (λ v. v.guest.claim ≡ Nothing) (sym c.seat.view_is) c.requires.idle) (subst (λ v. 0 < granted_in c.args.list v.guest.grants) (sym c.seat.view_is) c.requires.granted))
    s.table_id.slots c.seat.inside.seat.id
