use Rattle.std.proofs.Common.{◌≡◌, take}
use Rattle.leaf_shape.proofs.opening.shared_octants.Given as goal

abbrev pub invariant-loop-step : goal.invariant-loop-step
invariant-loop-step l = take l.step l.path ≡ take l.step l.other
