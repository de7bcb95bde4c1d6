use Rattle.std.proofs.Common.{◌+◌, length, sym, subst}
use Rattle.list_machine.proofs.Lists.{at_right}
use Rattle.list_table.specs.Ledgers.{Knows}
use Rattle.list_table.specs.declared.views.Ledger.{Ledger}
use Rattle.chunk_lists.proofs.keeper.Keeper.take_back.Goals as goal

pub returns-clause-known : goal.returns-clause-known
returns-clause-known c f q =
    let old = subst (λ k. Knows k.ledger.owner.facts f) (sym c.self.view_is) q in
    subst (λ (o : Ledger). Knows o.owner.facts f) (sym c.take_back.ensures.ledger) (length c.args.guest.guest.facts + old.0, at_right c.args.guest.guest.facts c.self.inside.seat.ledger.owner.facts old.0 f old.1)
