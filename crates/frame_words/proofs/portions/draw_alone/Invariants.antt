use Rattle.std.proofs.Common.{◌≡◌, length, take}
use Rattle.frame_words.specs.Hands.{HasDrawn}
use Rattle.frame_words.specs.Parts.{all_items, portion}
use Rattle.frame_words.proofs.portions.draw_alone.Given as goal

abbrev pub invariant-loop-part : goal.invariant-loop-part
invariant-loop-part l = record {
  start : l.start ≡ length (all_items (take l.part-index l.parts));
  drawn : HasDrawn l.camera l.desk.shared.key (portion l.first l.end (all_items (take l.part-index l.parts))) l.fn.seat.table_id l.fn.seat.me
      l.seat.table_id l.seat.me;
}
