use Rattle.std.proofs.Common.{◌≡◌, ◌+◌, ℕ, List, [], ◌∷◌, ◌++◌, Some, length, ap, sym, refl, ◌∙◌, arith}
use Rattle.std.specs.Prelude.{slice_get}
use Rattle.std.proofs.lemmas.Option.{slice_get-get_or}
use Rattle.cube_math.specs.declared.config.Entry.{Entry}
use Rattle.record_model.specs.Records.{Record, journal}
use Rattle.record_model.specs.declared.event.Event.TheVariants.{Publication}
use Rattle.record_model.proofs.RecordLaws.{length-journal}
use Rattle.version_rows.specs.Versions.{BatchRowValue}
use Rattle.record_book.specs.Books.{BookValue}
use Rattle.record_book.specs.BookKept.{events_of}
use Rattle.record_book.specs.KeptBatches.{KeptValue}
use Rattle.record_book.specs.declared.row.Row.{Row}
use Rattle.record_book.specs.declared.row.Standing.TheVariants.{Out}
use Rattle.record_book.proofs.BookLaws.{publication_events, same_book, with_publication}
use Rattle.record_book.proofs.FactLaws.{entries_counted, fewer_entries}
use Rattle.record_book.proofs.ViewLaws.{view_few_kept, view_place}
use Rattle.record_book.proofs.book.RecordBook.publish.Goals as goal

pub overflow_cast-number : goal.overflow_cast-number
overflow_cast-number c =
    let out : slice_get c.self.inside.standings.items c.args.place ≡ Some Out =
    ap (λ (b : BookValue). slice_get b.standings c.args.place) c.self.view_is ∙ c.requires.out in
    let fewer = fewer_entries _ _ _ _ _ _ c.self.invariant.book c.args.place out in
    let few = view_few_kept c.self.inside _ c.self.invariant c.self.view_is in
    omega (arith, fewer, few, c.self.invariant.small, c.self.inside.entries.ok.0, c.len.ensures)

pub overflow_add-number : goal.overflow_add-number
overflow_add-number c =
    let out : slice_get c.self.inside.standings.items c.args.place ≡ Some Out =
    ap (λ (b : BookValue). slice_get b.standings c.args.place) c.self.view_is ∙ c.requires.out in
    let fewer = fewer_entries _ _ _ _ _ _ c.self.invariant.book c.args.place out in
    let few = view_few_kept c.self.inside _ c.self.invariant c.self.view_is in
    omega (arith, fewer, few, c.self.invariant.small, c.self.inside.entries.ok.0, c.len.ensures)

pub index-batch-requires : goal.index-batch-requires
index-batch-requires c =
    let low = view_place c.self.inside _ c.self.invariant c.self.view_is c.args.place c.requires.out in
    omega (arith, low, c.self.inside.kept.ok.0)

pub index_mut-requires : goal.index_mut-requires
index_mut-requires c =
    let low = view_place c.self.inside _ c.self.invariant c.self.view_is c.args.place c.requires.out in
    omega (arith, low, c.self.inside.standings.ok.0, c.self.invariant.book.stand)

pub invariant_of-self : goal.invariant_of-self
invariant_of-self c =
    let I = c.self.inside in
    let b : KeptValue = c.index-batch.result.now in
    let out : slice_get I.standings.items c.args.place ≡ Some Out =
    ap (λ (v : BookValue). slice_get v.standings c.args.place) c.self.view_is ∙ c.requires.out in
    let low = view_place c.self.inside _ c.self.invariant c.self.view_is c.args.place c.requires.out in
    let there : slice_get I.kept.items c.args.place ≡ Some b = slice_get-get_or I.kept.items c.args.place b low ∙ ap Some (sym c.index-batch.ensures) in
    let next : c.len.result + 1 ≡ length I.entries.items + 1 = ap (λ (n : ℕ). n + 1) (c.len.ensures ∙ I.entries.ok.0) in
    record {
      book = same_book (sym c.push_within.ensures.items) refl refl
          (sym (c.push_within-2.ensures.items ∙ ap (λ (e : Entry). I.entries.items ++ e ∷ []) c.entry-entry.ensures))
          (sym (c.push_within-3.ensures.items ∙ ap (λ (r : BatchRowValue). I.batches.items ++ r ∷ []) c.row-row.ensures)) refl
          (with_publication _ _ _ _ _ _ c.self.invariant.book c.args.place b there out (c.len.result + 1) next);
      small = c.self.invariant.small;
      room = λ has. absurd (cc);
    }

pub returns-clause-number : goal.returns-clause-number
returns-clause-number c =
    let I = c.self.inside in
    let b : KeptValue = c.index-batch.result.now in
    let low = view_place c.self.inside _ c.self.invariant c.self.view_is c.args.place c.requires.out in
    let there : slice_get I.kept.items c.args.place ≡ Some b = slice_get-get_or I.kept.items c.args.place b low ∙ ap Some (sym c.index-batch.ensures) in
    let counted = entries_counted _ _ _ _ _ _ c.self.invariant.book in
    ap (λ (n : ℕ). n + 1) (c.len.ensures ∙ I.entries.ok.0 ∙ counted)
    ∙ sym (length-journal (events_of I.kept.items I.rows.items) ((Publication b.input b.points, b.loader) ∷ []))
    ∙ ap (λ (l : Record). length (journal l)) (sym (publication_events I.kept.items I.rows.items c.args.place b there))
    ∙ ap (λ (l : List Row). length (journal (events_of I.kept.items l))) (sym c.push_within.ensures.items)
