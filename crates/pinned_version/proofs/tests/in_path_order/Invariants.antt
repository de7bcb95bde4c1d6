use Rattle.std.proofs.Common.{take}
use Rattle.pinned_version.specs.Pinned.{AreInPathOrder}
use Rattle.pinned_version.proofs.tests.in_path_order.Given as goal

abbrev pub invariant-loop-at : goal.invariant-loop-at
invariant-loop-at l = AreInPathOrder (take l.at l.rows)
