-- What a book keeps.
use Rattle.std.specs.Prelude.{◌≡◌, ◌^◌, ◌<◌, ◌≤◌, ℕ, Bool, true, false, List, length, map, All, count_by, slice_get, Option, Some, None, vec_len, IsTrue}
use Rattle.std.specs.Vec.{vec_capacity}
use Rattle.cube_math.specs.declared.config.Entry.{Entry}
use Rattle.octree_model.specs.Bags.{IsSameBag}
use Rattle.record_model.specs.Admissions.{admitted}
use Rattle.record_model.specs.Records.{Record, published}
use Rattle.record_model.specs.declared.event.Event.{Event}
use Rattle.record_model.specs.declared.event.Event.TheVariants.{Admission, Publication, Look}
use Rattle.version_rows.specs.Journals.{AreBatchesOf}
use Rattle.version_rows.specs.Versions.{BatchRowValue}
use Rattle.record_book.specs.Books.{BookValue, entries_of}
use Rattle.record_book.specs.KeptBatches.{KeptValue, kept_of, points_in}
use Rattle.record_book.specs.PublishedItems.{published_batches}
use Rattle.record_book.specs.declared.row.Row.{Row}
use Rattle.record_book.specs.declared.row.Row.TheVariants.{Admits, Publishes, Looks}
use Rattle.record_book.specs.declared.row.Standing.{Standing}
use Rattle.record_book.specs.declared.row.Standing.TheVariants.{Out, Published, Abandoned}
use Rattle.record_book.specs.declared.book.RecordBook.TheInside.{Inside}

-- the admission of a batch, by its loader
abbrev pub admission_of : Option KeptValue → Event × ℕ
admission_of None = (Look, 0)
admission_of (Some b) = (Admission b.input b.points, b.loader)

-- its publication, by the same
abbrev pub publication_of : Option KeptValue → Event × ℕ
publication_of None = (Look, 0)
publication_of (Some b) = (Publication b.input b.points, b.loader)

-- the event that a row stands for
abbrev pub event_of_row : List KeptValue → Row → Event × ℕ
event_of_row kept (Admits place) = admission_of (slice_get kept place)
event_of_row kept (Publishes place) = publication_of (slice_get kept place)
event_of_row kept (Looks pass) = (Look, pass)

-- the record that the rows stand for
abbrev pub events_of : List KeptValue → List Row → Record
events_of kept rows = map (event_of_row kept) rows

-- a row names one of so many batches, or none
abbrev pub IsRowOf : ℕ → Row → Type 0
IsRowOf count (Admits place) = place < count
IsRowOf count (Publishes place) = place < count
IsRowOf count (Looks pass) = Unit {0}

-- whether a batch was published
abbrev pub is_published : Standing → Bool
is_published Out = false
is_published Published = true
is_published Abandoned = false

-- a published batch's row has the items of a kept batch that was published
pub record IsPlaced (kept : List KeptValue) (standings : List Standing) (r : BatchRowValue) : Type 0 where
  pub place : ℕ
  pub batch : KeptValue
  pub there : slice_get kept place ≡ Some batch
  pub standing : slice_get standings place ≡ Some Published
  pub first : r.first ≡ batch.first
  pub len : r.len ≡ length batch.points

-- the rows, the kept batches and what is told of them are those of one record
pub record IsBook (rows : List Row) (kept : List KeptValue) (standings : List Standing) (entries : List Entry)
    (batches : List BatchRowValue) (count : ℕ) : Type 0 where
  pub rows_are : All (IsRowOf (length kept)) rows
  pub kept_are : kept_of (events_of kept rows) ≡ kept
  pub full : All (λ (b : KeptValue). 1 ≤ length b.points) kept
  pub count_is : count ≡ admitted (events_of kept rows)
  pub stand : length standings ≡ length kept
  pub entries_are : entries ≡ entries_of (events_of kept rows)
  pub batches_are : AreBatchesOf (events_of kept rows) batches
  pub placed : All (IsPlaced kept standings) batches
  pub bag : IsSameBag (published (events_of kept rows)) (points_in (published_batches kept standings))
  pub published : length batches ≡ count_by is_published standings

-- what contracts see of a book
abbrev pub book_of : Inside → BookValue
book_of a = record { events = events_of a.kept.items a.rows.items; standings = a.standings.items; room = a.room }

-- there is room for the next event in each list
pub record HasRoom (a : Inside) : Type 0 where
  pub rows : vec_len a.rows < vec_capacity a.rows
  pub kept : vec_len a.kept < vec_capacity a.kept
  pub standings : vec_len a.standings < vec_capacity a.standings
  pub entries : vec_len a.entries < vec_capacity a.entries
  pub batches : vec_len a.batches < vec_capacity a.batches

-- the book is that of a record, its items have numbers of 32 bits, and it has room where it says so
pub record IsKept (a : Inside) : Type 0 where
  pub book : IsBook a.rows.items a.kept.items a.standings.items a.entries.items a.batches.items a.admitted
  pub small : a.admitted < 2 ^ 32
  pub room : IsTrue a.room → HasRoom a
