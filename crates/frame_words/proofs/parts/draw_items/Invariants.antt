use Rattle.std.proofs.Common.{◌≡◌, take}
use Rattle.frame_words.specs.Hands.{Adds, AreCapped, IsBrush}
use Rattle.frame_words.proofs.parts.draw_items.Given as goal

abbrev pub invariant-loop-item : goal.invariant-loop-item
invariant-loop-item l = record {
  table : l.seat.table_id ≡ l.fn.seat.table_id;
  brush : IsBrush l.desk.shared.key l.fn.seat.me.0.shares l.seat.me;
  capped : AreCapped l.seat.me.0.keys;
  drawn : Adds l.camera (take l.item-index l.items) l.fn.seat.me.0.keys l.seat.me.0.keys;
}
