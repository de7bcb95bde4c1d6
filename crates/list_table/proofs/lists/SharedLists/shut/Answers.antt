use Rattle.std.proofs.Common.{◌≡◌, bit_or, sym, refl, ap, ◌∙◌, subst, arith}
use Rattle.list_machine.specs.declared.views.Stage.TheVariants.{Open}
use Rattle.list_table.specs.Ledgers.{leaf_of}
use Rattle.list_table.proofs.Shuts.{ShutTold, shut_may}
use Rattle.list_table.specs.Ruled.{ledger_of}
use Rattle.list_table.proofs.Steps.{owner_steps}
use Rattle.list_table.proofs.lists.SharedLists.shut.Goals as goal

pub raise-found-requires-clause-allowed : goal.raise-found-requires-clause-allowed
raise-found-requires-clause-allowed c =
    let s = c.self.inside.desk.shared in
    let me = c.seat.inside.seat.me in
    let lists : c.args.self.now.lists ≡ s.key.lists = sym (ap (λ v. v.lists) c.self.view_is) ∙ sym (ap (λ z. z.lists) c.self.invariant.1) in
    let chunks : c.args.self.now.chunks ≡ s.key.chunks = sym (ap (λ v. v.chunks) c.self.view_is) ∙ sym (ap (λ z. z.chunks) c.self.invariant.1) in
    owner_steps s.key.lists s.key.chunks me c.args.list c.args.list (λ n. bit_or n 9223372036854775808) (λ n. bit_or n 9223372036854775808) (ShutTold (ledger_of me.0) c.args.list) refl (λ n. refl) c.seat.invariant.seat_is
    (shut_may s.key.lists s.key.chunks (ledger_of me.0) c.args.list (omega (arith, c.requires.list, lists)) (subst (λ v. (leaf_of v.ledger c.args.list).stage ≡ Open) (sym c.seat.view_is) c.requires.takes))
    s.table_id.slots c.seat.inside.seat.id
