use Rattle.std.proofs.Common.{arith}
use Rattle.record_book.proofs.FactLaws.{few_entries, few_kept}
use Rattle.record_book.proofs.book.RecordBook.published.Goals as goal

pub overflow_cast-result : goal.overflow_cast-result
overflow_cast-result c =
    let few = few_entries _ _ _ _ _ _ c.self.invariant.book in
    let kept = few_kept _ _ _ _ _ _ c.self.invariant.book in
    omega (arith, few, kept, c.self.invariant.small, c.self.inside.entries.ok.0, c.len.ensures)
