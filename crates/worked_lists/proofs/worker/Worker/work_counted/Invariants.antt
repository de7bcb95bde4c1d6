use Rattle.std.proofs.Common.{◌≡◌}
use Rattle.worked_lists.proofs.worker.Worker.work_counted.Given as goal

abbrev pub invariant-loop-item : goal.invariant-loop-item
invariant-loop-item g l = l.worker.name ≡ l.fn.self.name
