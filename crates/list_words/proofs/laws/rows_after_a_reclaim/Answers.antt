use Rattle.list_words.proofs.RowLaws.{reclaimed_each, reclaimed_open, reclaimed_shut, reclaimed_uncleared}
use Rattle.list_words.proofs.laws.rows_after_a_reclaim.Goals as goal

pub returns-clause-each : goal.returns-clause-each
returns-clause-each c = λ s t l r. reclaimed_each s t r l

pub returns-clause-uncleared : goal.returns-clause-uncleared
returns-clause-uncleared c = λ s t l r. reclaimed_uncleared s t r l

pub returns-clause-open : goal.returns-clause-open
returns-clause-open c = λ s t l r shut. reclaimed_open s t r shut l

pub returns-clause-shut : goal.returns-clause-shut
returns-clause-shut c = λ s t l r shut. reclaimed_shut s t r shut l
