use Rattle.std.proofs.Common.{◌≡◌, min}
use Rattle.splat_ppm.specs.Lowering.{AreLowered, lies_in_square}
use Rattle.frame_words.specs.Hands.{IsBrush}
use Rattle.frame_words.proofs.brush.lower_square.Given as goal

abbrev pub invariant-loop-row : goal.invariant-loop-row
invariant-loop-row l = record {
  table : l.seat.table_id ≡ l.fn.seat.table_id;
  brush : IsBrush l.desk.shared.key l.fn.seat.me.0.shares l.seat.me;
  lowered : AreLowered (lies_in_square l.width l.square.left l.square.right l.square.top (min l.row l.square.bottom)) l.square.key
      l.fn.seat.me.0.keys l.seat.me.0.keys;
}
