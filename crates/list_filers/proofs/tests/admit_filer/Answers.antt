use Rattle.std.proofs.Common.{sym, subst}
use Rattle.list_machine.specs.Steps.{IsGrantable}
use Rattle.list_table.specs.Tables.{OwnerValue}
use Rattle.list_filers.proofs.Worked.{grantable, grants}
use Rattle.list_filers.proofs.tests.admit_filer.Goals as goal

pub admit-seat-requires-clause-grants : goal.admit-seat-requires-clause-grants
admit-seat-requires-clause-grants c = subst (λ (o : OwnerValue). IsGrantable o.ledger.owner.book.leaves grants) (sym c.requires.owner) grantable
