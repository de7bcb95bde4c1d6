-- Records of what passes did, and the journal of what they published.
use Rattle.std.specs.Prelude.{◌≡◌, ◌==◌, ℕ, List, ◌++◌, filter, map, Option, Some, None}
use Rattle.std.specs.List.{filter_map, flat_map}
use Rattle.cube_math.specs.Points.{PointValue}
use Rattle.cube_math.specs.Batches.{BatchValue}
use Rattle.record_model.specs.declared.event.Act.{Act}
use Rattle.record_model.specs.declared.event.Act.TheVariants.{Admitted, Published, Looked}
use Rattle.record_model.specs.declared.event.Event.{Event}
use Rattle.record_model.specs.declared.event.Event.TheVariants.{Admission, Publication, Look}

-- events in order, each with the number of the pass that it is of
abbrev pub Record : Type 0
Record = List (Event × ℕ)

-- what a journal has of a published batch: the number of its input, the pass that published it, and its points
pub record JournalEntry : Type 0 where
  pub input : ℕ
  pub loader : ℕ
  pub points : List PointValue

-- the entry of a publication
abbrev pub entry_of : Event × ℕ → Option JournalEntry
entry_of (Admission input points, loader) = None
entry_of (Publication input points, loader) = Some record { input = input; loader = loader; points = points }
entry_of (Look, loader) = None

-- the entries of the publications, in order
abbrev pub journal : Record → List JournalEntry
journal events = filter_map entry_of events

-- the points of entries, one entry after the other
abbrev pub flat : List JournalEntry → List PointValue
flat entries = flat_map (λ (e : JournalEntry). e.points) entries

-- the published points, in the order of the publications
abbrev pub published : Record → List PointValue
published events = flat (journal events)

-- the events of one pass, in order
abbrev pub own : Record → ℕ → List Event
own events number = map (λ e. e.0) (filter (λ e. e.1 == number) events)

-- the second record goes on where the first ends
abbrev pub IsPrefix : Record → Record → Type 0
IsPrefix seen events = (rest : Record) × (seen ++ rest ≡ events)

-- the event of an act with a batch, which a look has not
abbrev pub event_of : Act → Option BatchValue → Event
event_of Admitted (Some b) = Admission b.input b.points
event_of Published (Some b) = Publication b.input b.points
event_of Admitted None = Look
event_of Published None = Look
event_of Looked batch = Look

-- how many publications an act is
abbrev pub publications : Act → ℕ
publications Admitted = 0
publications Published = 1
publications Looked = 0
