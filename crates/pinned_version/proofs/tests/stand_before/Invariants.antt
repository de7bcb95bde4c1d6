use Rattle.std.proofs.Common.{All, take}
use Rattle.pinned_version.specs.Pinned.{StandsBefore}
use Rattle.pinned_version.specs.declared.node_row.NodeRow.{NodeRow}
use Rattle.pinned_version.proofs.tests.stand_before.Given as goal

abbrev pub invariant-loop-row : goal.invariant-loop-row
invariant-loop-row l = All (λ (r : NodeRow). StandsBefore r.path l.path) (take l.row-index l.rows)
