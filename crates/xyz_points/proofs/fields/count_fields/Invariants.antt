use Rattle.std.proofs.Common.{◌≡◌, ◌≤◌, ◌+◌, length}
use Rattle.xyz_points.specs.Lines.{fields_of}
use Rattle.xyz_points.proofs.fields.count_fields.Given as goal

abbrev pub invariant-loop-behind : goal.invariant-loop-behind
invariant-loop-behind l = record {
  counted : l.count + length (fields_of l.rest) ≡ length (fields_of l.line);
  few : l.count + length l.rest ≤ length l.line;
}

abbrev pub decreases-loop-behind : goal.decreases-loop-behind
decreases-loop-behind l = length l.rest
