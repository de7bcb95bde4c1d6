use Rattle.std.proofs.Common.{◌-◌, ◌+◌, ◌≡◌, ◌≤◌, ◌/◌}
use Rattle.list_filers.specs.Cursors.{next_rank}
use Rattle.list_filers.proofs.Going.{IsGoing}
use Rattle.list_filers.proofs.ways.Ways.go.Given as goal

-- the cursor has not passed the place, and each link was counted
abbrev pub invariant-loop-chunk : goal.invariant-loop-chunk
invariant-loop-chunk g l = (l.rank ≡ l.place / 256) × IsGoing l.fn.self l.self l.at l.cursor l.place × (l.steps + l.fn.self.walked ≡ l.fn.steps + l.self.walked) × (l.fn.self.walked ≤ l.self.walked)

abbrev pub decreases-loop-chunk : goal.decreases-loop-chunk
decreases-loop-chunk g l = l.rank + 1 - next_rank l.cursor.reached
