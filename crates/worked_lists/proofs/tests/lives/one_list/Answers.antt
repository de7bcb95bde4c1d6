use Rattle.worked_lists.proofs.tests.lives.one_list.Goals as goal

pub returns-clause-laid_out : goal.returns-clause-laid_out
returns-clause-laid_out c = c.in_ok-filer.ensures.laid_out 1 0 0 c.in_ok-lists.ensures.laid_out
