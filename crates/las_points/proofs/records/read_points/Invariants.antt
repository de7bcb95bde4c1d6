use Rattle.std.proofs.Common.{◌≡◌, ◌+◌, ◌*◌}
use Rattle.las_points.specs.Reading.{first_points}
use Rattle.las_points.proofs.records.read_points.Given as goal

abbrev pub invariant-loop-i : goal.invariant-loop-i
invariant-loop-i l = record {
  placed : l.place ≡ l.table.start + l._i * l.table.length;
  pointed : l.points.items ≡ first_points l.fn.rgb l.bytes l._i;
}
