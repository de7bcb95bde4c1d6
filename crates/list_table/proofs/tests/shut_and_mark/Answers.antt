use Rattle.std.proofs.Common.{sym, subst, arith}
use Rattle.list_table.specs.OwnerMoves.{MayMark}
use Rattle.list_table.specs.declared.views.Ledger.{Ledger}
use Rattle.list_table.proofs.Worked.{first_mark}
use Rattle.list_table.proofs.tests.shut_and_mark.Goals as goal

pub mark-requires-clause-next : goal.mark-requires-clause-next
mark-requires-clause-next c =
    let some = c.if-count-eq0.false in
    subst (λ (g : Ledger). MayMark g 0 2 0) (sym c.shut-count.ensures.ledger) (first_mark c.args.owner.now.ledger 2 c.shut-count.result (omega (arith, some)) c.requires.first)
