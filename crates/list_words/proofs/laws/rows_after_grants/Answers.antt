use Rattle.list_words.proofs.RowLaws.{granted_holds, granted_more, row-grant_rows}
use Rattle.list_words.proofs.laws.rows_after_grants.Goals as goal

pub returns-clause-besides : goal.returns-clause-besides
returns-clause-besides c = λ s gs l. row-grant_rows gs s.rows l

pub returns-clause-granted : goal.returns-clause-granted
returns-clause-granted c = λ s gs l low. granted_more gs s.rows l low

pub returns-clause-held : goal.returns-clause-held
returns-clause-held c = λ s gs. granted_holds gs s.rows
