use Rattle.std.proofs.Common.{ap, ◌∙◌}
use Rattle.std.specs.Prelude.{slice_get}
use Rattle.record_book.specs.Books.{BookValue}
use Rattle.record_book.specs.BookKept.{HasRoom}
use Rattle.record_book.proofs.BookLaws.{without_batch}
use Rattle.record_book.proofs.book.RecordBook.abandon.Goals as goal

pub invariant_of-self : goal.invariant_of-self
invariant_of-self c = record {
  book = without_batch _ _ _ _ _ _ c.self.invariant.book c.args.place (ap (λ (b : BookValue). slice_get b.standings c.args.place) c.self.view_is ∙ c.requires);
  small = c.self.invariant.small;
  room = λ has. let r : HasRoom c.self.inside = c.self.invariant.room has in
      record { rows = r.rows; kept = r.kept; standings = r.standings; entries = r.entries; batches = r.batches };
}
