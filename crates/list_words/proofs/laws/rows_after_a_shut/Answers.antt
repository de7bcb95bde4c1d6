use Rattle.list_words.specs.Store.{row, shut_with}
use Rattle.list_words.proofs.RowLaws.{open_row, row-with_row, row-with_row_other, shut_holds, shut_open}
use Rattle.list_words.proofs.laws.rows_after_a_shut.Goals as goal

pub returns-clause-here : goal.returns-clause-here
returns-clause-here c = λ s l marked o. row-with_row s l (shut_with (row s l) marked) (open_row s l o)

pub returns-clause-others : goal.returns-clause-others
returns-clause-others c = λ s l m marked other. row-with_row_other s l m (shut_with (row s l) marked) other

pub returns-clause-open : goal.returns-clause-open
returns-clause-open c = shut_open

pub returns-clause-held : goal.returns-clause-held
returns-clause-held c = shut_holds
