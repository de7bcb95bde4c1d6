use Rattle.std.proofs.Common.{◌≡◌, min}
use Rattle.splat_ppm.specs.Lowering.{AreLowered, lies_in}
use Rattle.frame_words.specs.Hands.{IsBrush}
use Rattle.frame_words.proofs.brush.lower_run.Given as goal

abbrev pub invariant-loop-pixel : goal.invariant-loop-pixel
invariant-loop-pixel l = record {
  table : l.seat.table_id ≡ l.fn.seat.table_id;
  brush : IsBrush l.desk.shared.key l.fn.seat.me.0.shares l.seat.me;
  lowered : AreLowered (lies_in l.first (min l.pixel l.end)) l.key l.fn.seat.me.0.keys l.seat.me.0.keys;
}
