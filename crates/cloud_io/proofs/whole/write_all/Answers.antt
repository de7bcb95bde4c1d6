use Rattle.std.proofs.Common.{arith, ◌∙◌}
use Rattle.cloud_io.proofs.Pieces.{appends_more, take_then}
use Rattle.cloud_io.proofs.whole.write_all.Goals as goal

pub loop-done-preserved : goal.loop-done-preserved
loop-done-preserved g c = record {
  within = omega (arith, c.in_ok-done.ensures.bound);
  faults = c.in_ok-done.ensures.cause.calm ∙ c.loop-done.invariant.faults;
  appended = appends_more _ _ _ _ _ _ c.loop-done.invariant.appended c.in_ok-done.ensures.appends (take_then _ _ _);
}
