use Rattle.std.proofs.Common.{◌≡◌, ◌+◌, ◌<◌, length, map, take, sum}
use Rattle.least_runs.proofs.joining.is_join_due.Given as goal

abbrev pub invariant-loop-run : goal.invariant-loop-run
invariant-loop-run l = record {
  room : sum (map (λ run. length run.value) (take l.run-index l.behind)) + l.room ≡ l.initial.room;
  some : 0 < l.room;
}
