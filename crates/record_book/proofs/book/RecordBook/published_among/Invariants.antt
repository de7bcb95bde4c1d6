use Rattle.std.proofs.Common.{◌≡◌, take}
use Rattle.record_book.specs.PublishedItems.{published_among}
use Rattle.record_book.proofs.book.RecordBook.published_among.Given as goal

-- the points of the published ones among the first items
abbrev pub invariant-loop-item : goal.invariant-loop-item
invariant-loop-item l = l.points.items ≡ published_among l.self (take l.item-index l.items)
