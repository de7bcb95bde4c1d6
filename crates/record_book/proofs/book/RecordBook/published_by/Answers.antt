use Rattle.std.proofs.Common.{◌≡◌, ◌<◌, Some, length, [], ◌∷◌, ap, sym, subst, ◌∙◌}
use Rattle.std.specs.Prelude.{slice_get}
use Rattle.record_model.specs.Records.{published}
use Rattle.record_book.specs.BookKept.{IsRowOf, event_of_row}
use Rattle.record_book.specs.KeptBatches.{kept_of}
use Rattle.record_book.specs.declared.row.Row.{Row}
use Rattle.record_book.proofs.FactLaws.{publishes-some}
use Rattle.record_book.proofs.ViewLaws.{view_batch}
use Rattle.record_book.proofs.book.RecordBook.published_by.Goals as goal

pub returns-in-Publishes : goal.returns-in-Publishes
returns-in-Publishes c =
    let low : c.in-Publishes.place < length (kept_of c.args.self.now.events) =
    subst (IsRowOf (length (kept_of c.args.self.now.events))) c.in-Publishes.is c.requires in
    let there : slice_get (kept_of c.args.self.now.events) c.in-Publishes.place ≡ Some c.index.result.now =
    view_batch c.self.inside _ c.self.invariant c.self.view_is c.in-Publishes.place c.index.result.now low c.index.ensures in
    c.as_slice.ensures.value ∙ (λ i. (c.deref.ensures i).items) ∙ c.points.ensures
    ∙ sym (publishes-some (kept_of c.args.self.now.events) c.in-Publishes.place c.index.result.now there)
    ∙ ap (λ (r : Row). published (event_of_row (kept_of c.args.self.now.events) r ∷ [])) (sym c.in-Publishes.is)
