use Rattle.std.proofs.Common.{◌≡◌, ◌+◌, ◌≤◌, ℕ, List, [], ◌∷◌, ◌++◌, length, ap, sym, refl, ◌∙◌, arith}
use Rattle.record_model.specs.declared.event.Event.TheVariants.{Admission}
use Rattle.record_book.specs.Books.{BookValue}
use Rattle.record_book.specs.BookKept.{events_of}
use Rattle.record_book.specs.KeptBatches.{KeptValue}
use Rattle.record_book.specs.declared.row.Row.{Row}
use Rattle.record_book.specs.declared.row.Row.TheVariants.{Admits}
use Rattle.record_book.proofs.BookLaws.{admission_events, same_book, with_admission}
use Rattle.record_book.proofs.ViewLaws.{view_count, view_few_kept}
use Rattle.record_book.proofs.book.RecordBook.admit.Goals as goal

pub overflow_cast-place : goal.overflow_cast-place
overflow_cast-place c =
    let few = view_few_kept c.self.inside _ c.self.invariant c.self.view_is in
    omega (arith, few, c.self.invariant.small, c.self.inside.kept.ok.0, c.len-place.ensures)

pub overflow_add-self : goal.overflow_add-self
overflow_add-self c =
    omega (arith, c.len.ensures.end, c.requires.next, view_count c.self.inside _ c.self.invariant c.self.view_is)

pub invariant_of-self : goal.invariant_of-self
invariant_of-self c =
    let I = c.self.inside in
    let next : c.args.batch.first ≡ I.admitted = c.requires.next ∙ sym (view_count c.self.inside _ c.self.invariant c.self.view_is) in
    let some : 1 ≤ length c.args.batch.points = omega (arith, c.len.ensures.some, c.len.ensures.value) in
    let rows : c.push_within.new.values.items ≡ I.rows.items ++ Admits (length I.kept.items) ∷ [] =
    c.push_within.ensures.items ∙ ap (λ (n : ℕ). I.rows.items ++ Admits n ∷ []) (c.len-place.ensures ∙ I.kept.ok.0) in
    record {
      book = same_book (sym rows) (sym c.push_within-2.ensures.items) (sym c.push_within-3.ensures.items) refl refl
          (ap (λ (n : ℕ). I.admitted + n) (sym c.len.ensures.value)) (with_admission _ _ _ _ _ _ c.self.invariant.book c.args.batch next some);
      small = omega (arith, c.len.ensures.end, next);
      room = λ has. absurd (cc);
    }

pub returns-clause-events : goal.returns-clause-events
returns-clause-events c =
    let I = c.self.inside in
    let rows : c.push_within.new.values.items ≡ I.rows.items ++ Admits (length I.kept.items) ∷ [] =
    c.push_within.ensures.items ∙ ap (λ (n : ℕ). I.rows.items ++ Admits n ∷ []) (c.len-place.ensures ∙ I.kept.ok.0) in
    ap (λ (l : List KeptValue). events_of l c.push_within.new.values.items) c.push_within-2.ensures.items
    ∙ ap (λ (l : List Row). events_of (I.kept.items ++ c.args.batch ∷ []) l) rows
    ∙ admission_events I.kept.items I.rows.items c.args.batch c.self.invariant.book.rows_are
    ∙ ap (λ (b : BookValue). b.events ++ (Admission c.args.batch.input c.args.batch.points, c.args.batch.loader) ∷ []) c.self.view_is
