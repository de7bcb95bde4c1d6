use Rattle.std.proofs.Common.{sym, subst, arith}
use Rattle.list_machine.specs.Steps.{IsGrantable}
use Rattle.list_table.specs.declared.views.Ledger.{Ledger}
use Rattle.list_table.proofs.Worked.{one_place, grantable}
use Rattle.list_table.proofs.tests.admit_filer.Goals as goal

pub admit-requires-clause-grants : goal.admit-requires-clause-grants
admit-requires-clause-grants c = subst (λ (g : Ledger). IsGrantable g.owner.book.leaves one_place) (sym c.requires.ledger) (grantable 2 0 (omega arith))
