use Rattle.std.proofs.Common.{List, ◌++◌, take, ap, sym, ◌∙◌}
use Rattle.cube_math.specs.Points.{PointValue}
use Rattle.record_model.specs.Records.{published}
use Rattle.record_book.specs.BookKept.{events_of}
use Rattle.record_book.specs.KeptBatches.{kept_of}
use Rattle.record_book.specs.declared.row.Row.TheVariants.{Admits}
use Rattle.record_book.proofs.FactLaws.{publishes_more}
use Rattle.record_book.proofs.book.RecordBook.published_points.Goals as goal

pub loop-row-preserved : goal.loop-row-preserved
loop-row-preserved c =
    let kept = kept_of c.args.self.now.events in
    let rows = c.deref-row-items.result.now in
    c.in_ok-extend_from_slice.ensures.items ∙ ap (λ (l : List PointValue). l ++ c.published_by.result.now) c.loop-row.invariant
    ∙ ap (λ (l : List PointValue). published (events_of kept (take c.loop-row.row-index rows)) ++ l) c.published_by.ensures
    ∙ sym (publishes_more kept rows c.loop-row.row-index (Admits 0) c.loop-row-test.true)
