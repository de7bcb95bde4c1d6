use Rattle.std.proofs.Common.{◌≡◌, take}
use Rattle.least_runs.specs.Marks.{cells_of_words}
use Rattle.least_runs.proofs.cell_marks.cells_in.Given as goal

abbrev pub invariant-loop-word : goal.invariant-loop-word
invariant-loop-word l = l.cells.items ≡ cells_of_words l.words (take l.word-index l.touched)
