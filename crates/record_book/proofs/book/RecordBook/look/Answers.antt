use Rattle.std.proofs.Common.{List, sym, subst}
use Rattle.record_book.specs.BookKept.{IsBook}
use Rattle.record_book.specs.declared.row.Row.{Row}
use Rattle.record_book.proofs.BookLaws.{with_look}
use Rattle.record_book.proofs.book.RecordBook.look.Goals as goal

pub invariant_of-self : goal.invariant_of-self
invariant_of-self c =
    let I = c.self.inside in record {
      book = subst (λ (rows : List Row). IsBook rows I.kept.items I.standings.items I.entries.items I.batches.items I.admitted)
          (sym c.push_within.ensures.items) (with_look _ _ _ _ _ _ c.self.invariant.book c.args.pass);
      small = c.self.invariant.small;
      room = λ has. absurd (cc);
    }
