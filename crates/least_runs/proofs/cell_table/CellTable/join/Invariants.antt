use Rattle.std.proofs.Common.{◌≡◌, map, take}
use Rattle.least_runs.specs.Runs.{joined_run}
use Rattle.least_runs.proofs.cell_table.CellTable.join.Given as goal

abbrev pub invariant-loop-run : goal.invariant-loop-run
invariant-loop-run l = l.self ≡ joined_run (map (λ run. run.value) (take l.run-index l.runs))
