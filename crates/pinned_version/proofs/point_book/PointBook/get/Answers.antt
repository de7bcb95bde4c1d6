use Rattle.std.proofs.Common.{List, ap, ◌∙◌}
use Rattle.pinned_version.specs.Books.{BatchItems, point_of}
use Rattle.pinned_version.proofs.BookLaws.{none_begun}
use Rattle.pinned_version.proofs.point_book.PointBook.get.Goals as goal

pub returns-then-begun-eq0-clause-point : goal.returns-then-begun-eq0-clause-point
returns-then-begun-eq0-clause-point g c =
    none_begun c.deref-2.result.now c.batches_begun-begun.result c.args.item c.if-begun-eq0.true c.batches_begun-begun.ensures.behind
    ∙ ap (λ (book : List BatchItems). point_of book c.args.item) (c.deref-2.ensures.value ∙ c.self.view_is)
