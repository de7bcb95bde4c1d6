-- What a book says of its record.
use Rattle.std.proofs.Common.{◌≡◌, ℕ, ◌+◌, ◌<◌, ◌≤◌, List, [], ◌∷◌, ◌++◌, All, take, length, get_or, count_by, Option, Some, None, ap, sym, ◌∙◌, refl, arith, length-append}
use Rattle.std.specs.Prelude.{slice_get}
use Rattle.std.proofs.lemmas.List.{append-nil, length-map, map_more}
use Rattle.std.proofs.lemmas.List.Elements.{All-head, All-nil, All-tail}
use Rattle.std.proofs.lemmas.List.Sums.{count_by-le-length}
use Rattle.cube_math.specs.declared.config.Entry.{Entry}
use Rattle.record_model.specs.Records.{journal, published}
use Rattle.record_model.proofs.RecordLaws.{published-append}
use Rattle.version_rows.specs.Journals.{entry_of_row}
use Rattle.version_rows.specs.Versions.{BatchRowValue}
use Rattle.record_book.specs.Books.{short_entry}
use Rattle.record_book.specs.BookKept.{IsBook, IsPlaced, IsRowOf, admission_of, event_of_row, events_of, is_published, publication_of}
use Rattle.record_book.specs.KeptBatches.{KeptValue, points_in}
use Rattle.record_book.specs.declared.row.Row.{Row}
use Rattle.record_book.specs.declared.row.Row.TheVariants.{Admits, Publishes}
use Rattle.record_book.specs.declared.row.Standing.{Standing}
use Rattle.record_book.specs.declared.row.Standing.TheVariants.{Out}
use Rattle.record_book.proofs.KeptLaws.{admitted_kept}
use Rattle.record_book.proofs.PlaceLaws.{published_few}

-- the book of no events
pub empty_book : IsBook [] [] [] [] [] 0
empty_book = record {
  rows_are = All-nil (IsRowOf 0);
  kept_are = refl;
  full = All-nil (λ (b : KeptValue). 1 ≤ length b.points);
  count_is = refl;
  stand = refl;
  entries_are = refl;
  batches_are = record {
    entries = refl;
    numbers = refl;
    within = λ k d low. absurd (omega arith);
    admitted = λ k d low. absurd (omega arith);
    apart = λ i j d low high. absurd (omega arith);
  };
  placed = All-nil (IsPlaced [] []);
  bag = λ test. refl;
  published = refl;
}

kept_few : (kept : List KeptValue) → All (λ (b : KeptValue). 1 ≤ length b.points) kept → length kept ≤ length (points_in kept)
kept_few [] full = omega arith
kept_few (b ∷ kept) full =
    let rest = kept_few kept (All-tail (λ (b : KeptValue). 1 ≤ length b.points) b kept full) in
    let one = All-head (λ (b : KeptValue). 1 ≤ length b.points) b kept full in
    omega (arith, length-append b.points (points_in kept))

module _ (rows : List Row) (kept : List KeptValue) (standings : List Standing) (entries : List Entry) (batches : List BatchRowValue) (count : ℕ)
    (book : IsBook rows kept standings entries batches count) where
  -- all admitted points
  pub count_kept : count ≡ length (points_in kept)
  count_kept = book.count_is ∙ admitted_kept (events_of kept rows) ∙ ap (λ (l : List KeptValue). length (points_in l)) book.kept_are

  pub few_kept : length kept ≤ count
  few_kept = omega (arith, kept_few kept book.full, count_kept)

  -- as many entries as publications
  pub entries_counted : length entries ≡ length (journal (events_of kept rows))
  entries_counted = ap length book.entries_are ∙ length-map (journal (events_of kept rows)) short_entry

  pub entries_published : length entries ≡ count_by is_published standings
  entries_published =
      entries_counted ∙ sym (ap length book.batches_are.entries) ∙ length-map batches (entry_of_row (events_of kept rows)) ∙ book.published

  pub few_entries : length entries ≤ length kept
  few_entries = omega (arith, entries_published, count_by-le-length is_published standings, book.stand)

  -- where a batch is out, fewer are published
  pub fewer_entries : (place : ℕ) → slice_get standings place ≡ Some Out → length entries < length kept
  fewer_entries place out = omega (arith, entries_published, published_few standings place out, book.stand)

-- ---- published points, row by row

-- the points that a row's event publishes
pub publishes-some : (kept : List KeptValue) (place : ℕ) (b : KeptValue) → slice_get kept place ≡ Some b
    → published (event_of_row kept (Publishes place) ∷ []) ≡ b.points
publishes-some kept place b there = ap (λ (o : Option KeptValue). published (publication_of o ∷ [])) there ∙ append-nil b.points

pub publishes-none : (kept : List KeptValue) (place : ℕ) → published (event_of_row kept (Admits place) ∷ []) ≡ []
publishes-none kept place = by_batch (slice_get kept place)
  where
    by_batch : (o : Option KeptValue) → published (admission_of o ∷ []) ≡ []
    by_batch None = refl
    by_batch (Some b) = refl

pub publishes_more : (kept : List KeptValue) (rows : List Row) (i : ℕ) (d : Row) → i < length rows
    → published (events_of kept (take (i + 1) rows)) ≡ published (events_of kept (take i rows)) ++ published (event_of_row kept (get_or rows i d) ∷ [])
publishes_more kept rows i d low =
    ap published (map_more (event_of_row kept) rows i d low) ∙ published-append (events_of kept (take i rows)) (event_of_row kept (get_or rows i d) ∷ [])
