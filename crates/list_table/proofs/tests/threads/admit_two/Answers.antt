use Rattle.std.proofs.Common.{sym, subst, arith}
use Rattle.list_machine.specs.Steps.{IsGrantable}
use Rattle.list_table.specs.declared.views.Ledger.{Ledger}
use Rattle.list_table.proofs.Worked.{one_place, grantable}
use Rattle.list_table.proofs.tests.threads.admit_two.Goals as goal

pub admit-second-requires-clause-grants : goal.admit-second-requires-clause-grants
admit-second-requires-clause-grants c = subst (λ (g : Ledger). IsGrantable g.owner.book.leaves one_place) (sym c.admit_filer-first.ensures.ledger) (grantable 2 1 (omega arith))
