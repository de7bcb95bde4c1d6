use Rattle.std.proofs.Common.{◌≡◌, map, take}
use Rattle.picture_model.specs.Items.{point_item}
use Rattle.frame_words.specs.Hands.{Adds, AreCapped, IsBrush}
use Rattle.frame_words.proofs.parts.draw_points.Given as goal

abbrev pub invariant-loop-point : goal.invariant-loop-point
invariant-loop-point l = record {
  table : l.seat.table_id ≡ l.fn.seat.table_id;
  brush : IsBrush l.desk.shared.key l.fn.seat.me.0.shares l.seat.me;
  capped : AreCapped l.seat.me.0.keys;
  drawn : Adds l.camera (map point_item (take l.point-index l.points)) l.fn.seat.me.0.keys l.seat.me.0.keys;
}
