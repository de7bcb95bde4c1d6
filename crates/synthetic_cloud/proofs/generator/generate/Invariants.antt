use Rattle.std.proofs.Common.{◌≡◌, ◌*◌}
use Rattle.synthetic_cloud.specs.Generated.{state_at, generated}
use Rattle.synthetic_cloud.proofs.generator.generate.Given as goal

abbrev pub invariant-loop-point : goal.invariant-loop-point
invariant-loop-point l = record {
  state : l.state ≡ state_at l.seed (3 * l._point);
  points : l.points.items ≡ generated l.seed l._point;
}
