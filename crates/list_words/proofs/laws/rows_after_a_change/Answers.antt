use Rattle.list_words.proofs.RowLaws.{fresh_holds, open_holds, open_row, roomier_holds, row-with_row, row-with_row_other}
use Rattle.list_words.proofs.laws.rows_after_a_change.Goals as goal

pub returns-clause-within : goal.returns-clause-within
returns-clause-within c = open_row

pub returns-clause-here : goal.returns-clause-here
returns-clause-here c = row-with_row

pub returns-clause-others : goal.returns-clause-others
returns-clause-others c = row-with_row_other

pub returns-clause-held : goal.returns-clause-held
returns-clause-held c = open_holds

pub returns-clause-opened : goal.returns-clause-opened
returns-clause-opened c = fresh_holds

pub returns-clause-reserved : goal.returns-clause-reserved
returns-clause-reserved c = roomier_holds
