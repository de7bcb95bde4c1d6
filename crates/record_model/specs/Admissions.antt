-- What a record admitted: each admission beside what was published when it came.
use Rattle.std.specs.Prelude.{ℕ, List, [], ◌∷◌, ◌++◌, length, sum_by}
use Rattle.std.specs.List.{flat_map}
use Rattle.cube_math.specs.Points.{PointValue}
use Rattle.record_model.specs.Records.{Record}
use Rattle.record_model.specs.declared.event.Event.TheVariants.{Admission, Publication, Look}

-- an admission: the points that were published before it, and those of its batch
pub record AdmissionValue : Type 0 where
  pub before : List PointValue
  pub points : List PointValue

-- the admissions of events, where these points were published already
abbrev pub admissions_from : List PointValue → Record → List AdmissionValue
admissions_from before [] = []
admissions_from before ((Admission input points, loader) ∷ events) = record { before = before; points = points } ∷ admissions_from before events
admissions_from before ((Publication input points, loader) ∷ events) = admissions_from (before ++ points) events
admissions_from before ((Look, loader) ∷ events) = admissions_from before events

-- the admissions of a record
abbrev pub admissions : Record → List AdmissionValue
admissions events = admissions_from [] events

-- the admitted points in the order of admission: the number of an item is the place of its point here
abbrev pub admitted_points : Record → List PointValue
admitted_points events = flat_map (λ (a : AdmissionValue). a.points) (admissions events)

-- how many points were admitted
abbrev pub admitted : Record → ℕ
admitted events = sum_by (λ (a : AdmissionValue). length a.points) (admissions events)
