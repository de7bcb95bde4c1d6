use Rattle.list_words.proofs.RowLaws.{open_holds, open_row, row-with_row, row-with_row_other}
use Rattle.list_words.proofs.laws.rows_after_a_link.Goals as goal

pub returns-clause-here : goal.returns-clause-here
returns-clause-here c = λ s l r o. row-with_row s l r (open_row s l o)

pub returns-clause-others : goal.returns-clause-others
returns-clause-others c = row-with_row_other

pub returns-clause-held : goal.returns-clause-held
returns-clause-held c = open_holds
