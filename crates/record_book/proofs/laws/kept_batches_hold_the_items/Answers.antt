use Rattle.std.proofs.Common.{sym}
use Rattle.record_book.proofs.KeptLaws.{ordered, points_kept}
use Rattle.record_book.proofs.laws.kept_batches_hold_the_items.Goals as goal

pub returns : goal.returns
returns c = record {
  items = λ events. sym (points_kept events);
  order = ordered 0;
}
