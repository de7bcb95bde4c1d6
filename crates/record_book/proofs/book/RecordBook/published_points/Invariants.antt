use Rattle.std.proofs.Common.{◌≡◌, take}
use Rattle.record_model.specs.Records.{published}
use Rattle.record_book.specs.BookKept.{events_of}
use Rattle.record_book.specs.KeptBatches.{kept_of}
use Rattle.record_book.proofs.book.RecordBook.published_points.Given as goal

-- the points of the publications among the first rows
abbrev pub invariant-loop-row : goal.invariant-loop-row
invariant-loop-row l = l.points.items ≡ published (events_of (kept_of l.self.events) (take l.row-index l.row-items))
