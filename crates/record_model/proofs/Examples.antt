-- A small record, and what the definitions say of it.
use Rattle.std.proofs.Common.{◌≡◌, ℕ, [], ◌∷◌, pos, refl}
use Rattle.cube_math.specs.Points.{PointValue}
use Rattle.record_model.specs.Records.{Record, IsPrefix, journal, own, published}
use Rattle.record_model.specs.Admissions.{admissions, admitted, admitted_points}
use Rattle.record_model.specs.declared.event.Event.TheVariants.{Admission, Publication, Look}

-- a white point
abbrev white : ℕ → PointValue
white x = record { x = pos x; y = pos 0; z = pos 0; rgb = 16777215 }

-- pass 0 admits a batch of two points, pass 1 looks, pass 1 admits a batch of one point, pass 0 publishes its batch and
-- admits another of one point
abbrev story : Record
story =
    (Admission 5 (white 1 ∷ white 2 ∷ []), 0) ∷ (Look, 1) ∷ (Admission 6 (white 3 ∷ []), 1) ∷ (Publication 5 (white 1 ∷ white 2 ∷ []), 0)
    ∷ (Admission 7 (white 4 ∷ []), 0) ∷ []

-- the journal has the published batch alone, with the pass that published it
published_once : journal story ≡ record { input = 5; loader = 0; points = white 1 ∷ white 2 ∷ [] } ∷ []
published_once = refl

-- its points are the published ones
points_once : published story ≡ white 1 ∷ white 2 ∷ []
points_once = refl

-- each pass has its own events, in order, and a pass that did nothing has none
events_of_each :
    (own story 0 ≡ Admission 5 (white 1 ∷ white 2 ∷ []) ∷ Publication 5 (white 1 ∷ white 2 ∷ []) ∷ Admission 7 (white 4 ∷ []) ∷ [])
    × (own story 1 ≡ Look ∷ Admission 6 (white 3 ∷ []) ∷ []) × (own story 2 ≡ [])
events_of_each = (refl, refl, refl)

-- what stood before the look is a beginning of it
before_the_look : IsPrefix ((Admission 5 (white 1 ∷ white 2 ∷ []), 0) ∷ []) story
before_the_look = ((Look, 1) ∷ (Admission 6 (white 3 ∷ []), 1) ∷ (Publication 5 (white 1 ∷ white 2 ∷ []), 0) ∷ (Admission 7 (white 4 ∷ []), 0) ∷ [], refl)

-- two batches were admitted while nothing was published, and one behind the publication
admitted_beside :
    admissions story
    ≡ record { before = []; points = white 1 ∷ white 2 ∷ [] } ∷ record { before = []; points = white 3 ∷ [] }
    ∷ record { before = white 1 ∷ white 2 ∷ []; points = white 4 ∷ [] } ∷ []
admitted_beside = refl

-- the items are numbered in the order of admission, whether they were published or not
items_in_order : (admitted_points story ≡ white 1 ∷ white 2 ∷ white 3 ∷ white 4 ∷ []) × (admitted story ≡ 4)
items_in_order = (refl, refl)
