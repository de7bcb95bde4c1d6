use Rattle.std.proofs.Common.{◌≡◌, ◌+◌, ◌≤◌, length, drop}
use Rattle.cube_math.specs.Cubes.{cube_at}
use Rattle.cube_math.proofs.cube.Cube.at.Given as goal

abbrev pub invariant-loop-step : goal.invariant-loop-step
invariant-loop-step l = record {
  leads : cube_at l.cube (drop l.step l.path) ≡ cube_at l.self l.path;
  room : length l.path + 7 ≤ l.cube.bits + l.step;
}
