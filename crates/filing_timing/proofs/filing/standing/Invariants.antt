use Rattle.std.proofs.Common.{◌≡◌, min, take}
use Rattle.std.specs.List.{sum_by}
use Rattle.filing_timing.specs.Standing.{standing_in}
use Rattle.filing_timing.proofs.filing.standing.Given as goal

abbrev pub invariant-loop-worker : goal.invariant-loop-worker
invariant-loop-worker l = l.count ≡ min (sum_by (λ w. standing_in w.answers) (take l.worker-index l.workers)) 18446744073709551615
