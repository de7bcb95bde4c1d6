-- What a book keeps, by what contracts see of it.
use Rattle.std.proofs.Common.{◌≡◌, ℕ, ◌<◌, ◌≤◌, List, length, get_or, Some, ap, sym, subst, ◌∙◌, arith}
use Rattle.std.specs.Prelude.{slice_get}
use Rattle.std.proofs.lemmas.Option.{get_or_from_slice_get, slice_get-get_or, slice_get_within}
use Rattle.record_model.specs.Admissions.{admitted}
use Rattle.record_book.specs.Books.{BookValue}
use Rattle.record_book.specs.BookKept.{IsKept, book_of}
use Rattle.record_book.specs.KeptBatches.{KeptValue, kept_of}
use Rattle.record_book.specs.declared.row.Standing.TheVariants.{Out}
use Rattle.record_book.specs.declared.book.RecordBook.TheInside.{Inside}
use Rattle.record_book.proofs.FactLaws.{few_entries, few_kept}
use Rattle.record_book.proofs.KeptLaws.{admitted_kept, ends_within}

module _ (a : Inside) (v : BookValue) (k : IsKept a) (is : book_of a ≡ v) where
  pub view_count : a.admitted ≡ admitted v.events
  view_count = k.book.count_is ∙ ap (λ (b : BookValue). admitted b.events) is

  pub view_kept : a.kept.items ≡ kept_of v.events
  view_kept = sym k.book.kept_are ∙ ap (λ (b : BookValue). kept_of b.events) is

  pub view_standings : a.standings.items ≡ v.standings
  view_standings = ap (λ (b : BookValue). b.standings) is

  -- no more batches than points, and no more entries than batches
  pub view_few_kept : length a.kept.items ≤ a.admitted
  view_few_kept = few_kept a.rows.items a.kept.items a.standings.items a.entries.items a.batches.items a.admitted k.book

  pub view_few_entries : length a.entries.items ≤ length a.kept.items
  view_few_entries = few_entries a.rows.items a.kept.items a.standings.items a.entries.items a.batches.items a.admitted k.book

  -- a batch that is out is a kept one
  pub view_place : (place : ℕ) → slice_get v.standings place ≡ Some Out → place < length a.kept.items
  view_place place out = omega (arith, slice_get_within v.standings place Out out, ap length view_standings, k.book.stand)

  -- what is read at a place is the batch there
  pub view_batch : (place : ℕ) (b : KeptValue) → place < length (kept_of v.events) → b ≡ get_or a.kept.items place b
      → slice_get (kept_of v.events) place ≡ Some b
  view_batch place b low read =
      ap (λ (l : List KeptValue). slice_get l place) (sym view_kept) ∙ slice_get-get_or a.kept.items place b (omega (arith, low, ap length view_kept))
      ∙ ap Some (sym read)

  -- a kept batch has a point, so that its first item was admitted
  pub view_full : (place : ℕ) (b : KeptValue) → slice_get (kept_of v.events) place ≡ Some b → 1 ≤ length b.points
  view_full place b at =
      let there : slice_get a.kept.items place ≡ Some b = ap (λ (l : List KeptValue). slice_get l place) view_kept ∙ at in
      subst (λ (x : KeptValue). 1 ≤ length x.points) (get_or_from_slice_get a.kept.items place b b there)
      (k.book.full place b (slice_get_within a.kept.items place b there))

  pub view_first : (place : ℕ) (b : KeptValue) → slice_get (kept_of v.events) place ≡ Some b → b.first < a.admitted
  view_first place b at = omega (arith, view_full place b at, ends_within v.events place b at, admitted_kept v.events, view_count)
