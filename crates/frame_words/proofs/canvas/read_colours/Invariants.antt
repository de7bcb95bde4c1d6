use Rattle.std.proofs.Common.{◌≡◌, ◌%◌, ◌^◌, map, take}
use Rattle.frame_words.proofs.canvas.read_colours.Given as goal

abbrev pub invariant-loop-pixel : goal.invariant-loop-pixel
invariant-loop-pixel l = record {
  table : l.seat.table_id ≡ l.fn.seat.table_id;
  kept : l.seat.me ≡ l.fn.seat.me;
  colours : l.colours.items ≡ map (λ key. key % 2 ^ 24) (take l.pixel l.fn.seat.me.0.keys);
}
