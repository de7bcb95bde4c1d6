-- How many publications the rows of a log are.
use Rattle.std.proofs.Common.{◌≡◌, ◌+◌, ◌≤◌, ◌<◌, ◌↔◌, ℕ, List, [], ◌∷◌, ◌++◌, map, length, refl, arith}
use Rattle.std.specs.Prelude.{Option, Some, None, IsNone}
use Rattle.std.proofs.lemmas.List.{map-append}
use Rattle.cube_math.specs.Batches.{BatchValue}
use Rattle.record_model.specs.Records.{Record, journal, event_of, publications}
use Rattle.record_model.specs.declared.event.Act.{Act}
use Rattle.record_model.specs.declared.event.Act.TheVariants.{Admitted, Published, Looked}
use Rattle.record_model.proofs.RecordLaws.{length-journal}
use Rattle.worked_turns.specs.Logs.{event_of_row}
use Rattle.worked_turns.specs.declared.log.Row.{Row}

-- how many publications an event is
pub one_more : (act : Act) (batch : Option BatchValue) (number : ℕ) → IsNone batch ↔ (act ≡ Looked) → length (journal ((event_of act batch, number) ∷ [])) ≡ publications act
one_more Admitted (Some b) number is = refl
one_more Published (Some b) number is = refl
one_more Looked (Some b) number is = refl
one_more Admitted None number is = refl
one_more Published None number is = let z : Published ≡ Looked = is.0 refl in absurd (cc)
one_more Looked None number is = refl

-- an event more
pub event_more : (events : Record) (act : Act) (batch : Option BatchValue) (number : ℕ) → IsNone batch ↔ (act ≡ Looked) → length (journal (events ++ (event_of act batch, number) ∷ [])) ≡ length (journal events) + publications act
event_more events act batch number is = let a = length-journal events ((event_of act batch, number) ∷ []) in let b = one_more act batch number is in omega arith

-- the events of a row more
pub events_more : (rows : List Row) (row : Row) → map event_of_row (rows ++ row ∷ []) ≡ map event_of_row rows ++ event_of_row row ∷ []
events_more rows row = map-append event_of_row rows (row ∷ [])

-- and there is room for it
pub few_more : (events : Record) (act : Act) (batch : Option BatchValue) (number : ℕ) → IsNone batch ↔ (act ≡ Looked) → length (journal events) + 1 < 4294967296 → length (journal (events ++ (event_of act batch, number) ∷ [])) < 4294967296
few_more events act batch number is few = let a = event_more events act batch number is in let b = at_most_one act in omega arith where
  at_most_one : (a : Act) → publications a ≤ 1
  at_most_one Admitted = omega arith
  at_most_one Published = omega arith
  at_most_one Looked = omega arith
