-- The batches that a record admitted, each with the numbers of its items.
use Rattle.std.specs.Prelude.{ℕ, ◌+◌, List, [], ◌∷◌, length}
use Rattle.std.specs.List.{flat_map}
use Rattle.cube_math.specs.Batches.{BatchValue}
use Rattle.cube_math.specs.Points.{PointValue}
use Rattle.record_model.specs.Records.{Record}
use Rattle.record_model.specs.declared.event.Event.TheVariants.{Admission, Publication, Look}

-- an admitted batch: the number of its input, the pass that admitted it, the number of its first item, and its points
pub record KeptValue : Type 0 where
  pub input : ℕ
  pub loader : ℕ
  pub first : ℕ
  pub points : List PointValue

-- a batch with its loader and the number of its first item
abbrev pub kept_as : BatchValue → ℕ → ℕ → KeptValue
kept_as batch loader first = record { input = batch.input; loader = loader; first = first; points = batch.points }

-- the batches that events admit, in order, where the first item has this number
abbrev pub kept_from : ℕ → Record → List KeptValue
kept_from first [] = []
kept_from first ((Admission input points, loader) ∷ events) =
    record { input = input; loader = loader; first = first; points = points } ∷ kept_from (first + length points) events
kept_from first ((Publication input points, loader) ∷ events) = kept_from first events
kept_from first ((Look, pass) ∷ events) = kept_from first events

-- the batches that a record admitted, in order: the place of a batch is its place here
abbrev pub kept_of : Record → List KeptValue
kept_of events = kept_from 0 events

-- their points, one batch after the other
abbrev pub points_in : List KeptValue → List PointValue
points_in kept = flat_map (λ (b : KeptValue). b.points) kept
