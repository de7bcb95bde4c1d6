-- Books of a record, as contracts see them.
use Rattle.std.specs.Prelude.{◌≡◌, ℕ, Bool, List, length, map, slice_get, Some}
use Rattle.cube_math.specs.declared.config.Entry.{Entry}
use Rattle.record_model.specs.Records.{Record, JournalEntry, journal}
use Rattle.record_book.specs.KeptBatches.{KeptValue, kept_of}
use Rattle.record_book.specs.declared.row.Standing.{Standing}
use Rattle.record_book.specs.declared.row.Standing.TheVariants.{Out}

-- a book: the record, where each admitted batch stands, in the order of admission, and whether one more event has its memory
pub record BookValue : Type 0 where
  pub events : Record
  pub standings : List Standing
  pub room : Bool

-- this batch was admitted at the place, and was neither published nor abandoned
pub record IsOut (book : BookValue) (place : ℕ) (batch : KeptValue) : Type 0 where
  pub standing : slice_get book.standings place ≡ Some Out
  pub kept : slice_get (kept_of book.events) place ≡ Some batch

-- a published batch without its points
abbrev pub short_entry : JournalEntry → Entry
short_entry e = record { input = e.input; loader = e.loader; len = length e.points }

-- the journal without its points
abbrev pub entries_of : Record → List Entry
entries_of events = map short_entry (journal events)
