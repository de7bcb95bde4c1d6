use Rattle.std.proofs.Common.{◌≡◌, ◌≤◌, ◌+◌, length}
use Rattle.xyz_points.specs.Lines.{lines_of}
use Rattle.xyz_points.specs.Reading.{xyz}
use Rattle.xyz_points.proofs.ReadingLaws.{behind_points, lines_reading}
use Rattle.xyz_points.proofs.reader.read_xyz.Given as goal

abbrev pub invariant-loop-text : goal.invariant-loop-text
invariant-loop-text l = record {
  counted : l.line + length l.rest ≤ length l.bytes;
  told : behind_points l.points.items (lines_reading l.decimals (l.line + 1) (lines_of l.rest)) ≡ xyz l.decimals l.bytes;
}

abbrev pub decreases-loop-text : goal.decreases-loop-text
decreases-loop-text l = length l.rest
