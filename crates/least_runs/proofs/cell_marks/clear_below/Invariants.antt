use Rattle.least_runs.proofs.MarkLaws.{Passed}
use Rattle.least_runs.proofs.cell_marks.clear_below.Given as goal

abbrev pub invariant-loop-k : goal.invariant-loop-k
invariant-loop-k l = Passed l.k l.fn.words l.words
