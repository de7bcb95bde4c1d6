use Rattle.std.proofs.Common.{◌≡◌, ◌<◌, ℕ, get_or}
use Rattle.splat_ppm.specs.Canvases.{no_key}
use Rattle.frame_words.specs.Hands.{IsWhole}
use Rattle.frame_words.proofs.canvas.wipe_all.Given as goal

abbrev pub invariant-loop-pixel : goal.invariant-loop-pixel
invariant-loop-pixel l = record {
  whole : IsWhole l.desk.shared.key l.desk.shared.table_id l.seat.table_id l.seat.me;
  wiped : (k : ℕ) → k < l.pixel → get_or l.seat.me.0.keys k 0 ≡ no_key;
}
