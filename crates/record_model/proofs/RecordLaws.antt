-- What records, journals and admissions are where a record goes on.
use Rattle.std.proofs.Common.{◌≡◌, ℕ, ◌+◌, List, [], ◌∷◌, ◌++◌, length, sum_by, ap, ◌∙◌, sym, refl, append_assoc, length-append}
use Rattle.std.proofs.lemmas.List.{append-nil}
use Rattle.std.proofs.lemmas.List.Elements.{filter_map-append}
use Rattle.std.proofs.lemmas.List.Sums.{sum_by-cons}
use Rattle.std.specs.List.{flat_map}
use Rattle.cube_math.specs.Points.{PointValue}
use Rattle.record_model.specs.Records.{Record, JournalEntry, entry_of, flat, journal, published}
use Rattle.record_model.specs.Admissions.{AdmissionValue, admissions, admissions_from, admitted, admitted_points}
use Rattle.record_model.specs.declared.event.Event.TheVariants.{Admission, Look, Publication}

-- the parts of a list's beginning and of its rest, one after the other
pub flat_map-append : {X A : Type 0} (f : X → List A) (xs ys : List X) → flat_map f (xs ++ ys) ≡ flat_map f xs ++ flat_map f ys
flat_map-append f [] ys = refl
flat_map-append f (x ∷ xs) ys = ap (λ l. f x ++ l) (flat_map-append f xs ys) ∙ sym (append_assoc (f x) (flat_map f xs) (flat_map f ys))

pub journal-append : (events more : Record) → journal (events ++ more) ≡ journal events ++ journal more
journal-append events more = filter_map-append entry_of events more

-- how many publications there are where a record goes on
pub length-journal : (events more : Record) → length (journal (events ++ more)) ≡ length (journal events) + length (journal more)
length-journal events more = ap length (journal-append events more) ∙ length-append (journal events) (journal more)

pub published-append : (events more : Record) → published (events ++ more) ≡ published events ++ published more
published-append events more = ap flat (journal-append events more) ∙ flat_map-append (λ (e : JournalEntry). e.points) (journal events) (journal more)

-- a publication adds its points to those that are published
pub published-publication : (events : Record) (input loader : ℕ) (points : List PointValue) → published (events ++ (Publication input points, loader) ∷ []) ≡ published events ++ points
published-publication events input loader points = published-append events ((Publication input points, loader) ∷ []) ∙ ap (λ (l : List PointValue). published events ++ l) (append-nil points)

pub published-admission : (events : Record) (input loader : ℕ) (points : List PointValue) → published (events ++ (Admission input points, loader) ∷ []) ≡ published events
published-admission events input loader points = published-append events ((Admission input points, loader) ∷ []) ∙ append-nil (published events)

pub published-look : (events : Record) (pass : ℕ) → published (events ++ (Look, pass) ∷ []) ≡ published events
published-look events pass = published-append events ((Look, pass) ∷ []) ∙ append-nil (published events)

pub admissions_from-append : (before : List PointValue) (events more : Record) → admissions_from before (events ++ more) ≡ admissions_from before events ++ admissions_from (before ++ published events) more
admissions_from-append before [] more = ap (λ (ps : List PointValue). admissions_from ps more) (sym (append-nil before))
admissions_from-append before ((Admission input points, loader) ∷ events) more = ap (λ (l : List AdmissionValue). record { before = before; points = points } ∷ l) (admissions_from-append before events more)
admissions_from-append before ((Publication input points, loader) ∷ events) more =
    admissions_from-append (before ++ points) events more
    ∙ ap (λ (ps : List PointValue). admissions_from (before ++ points) events ++ admissions_from ps more) (append_assoc before points (published events))
admissions_from-append before ((Look, loader) ∷ events) more = admissions_from-append before events more

pub admissions-append : (events more : Record) → admissions (events ++ more) ≡ admissions events ++ admissions_from (published events) more
admissions-append events more = admissions_from-append [] events more

pub admissions-admission : (events : Record) (input loader : ℕ) (points : List PointValue)
    → admissions (events ++ (Admission input points, loader) ∷ []) ≡ admissions events ++ record { before = published events; points = points } ∷ []
admissions-admission events input loader points = admissions-append events ((Admission input points, loader) ∷ [])

pub admissions-publication : (events : Record) (input loader : ℕ) (points : List PointValue) → admissions (events ++ (Publication input points, loader) ∷ []) ≡ admissions events
admissions-publication events input loader points = admissions-append events ((Publication input points, loader) ∷ []) ∙ append-nil (admissions events)

pub admissions-look : (events : Record) (pass : ℕ) → admissions (events ++ (Look, pass) ∷ []) ≡ admissions events
admissions-look events pass = admissions-append events ((Look, pass) ∷ []) ∙ append-nil (admissions events)

-- an admission's points are the last items
pub admitted_points-admission : (events : Record) (input loader : ℕ) (points : List PointValue) → admitted_points (events ++ (Admission input points, loader) ∷ []) ≡ admitted_points events ++ points
admitted_points-admission events input loader points =
    ap (flat_map (λ (a : AdmissionValue). a.points)) (admissions-admission events input loader points)
    ∙ flat_map-append (λ (a : AdmissionValue). a.points) (admissions events) (record { before = published events; points = points } ∷ [])
    ∙ ap (λ (l : List PointValue). admitted_points events ++ l) (append-nil points)

-- as many points are in all parts as in each, added up
length-flat_map : {X A : Type 0} (f : X → List A) (xs : List X) → sum_by (λ x. length (f x)) xs ≡ length (flat_map f xs)
length-flat_map f [] = refl
length-flat_map f (x ∷ xs) = sum_by-cons (λ y. length (f y)) x xs ∙ ap (λ n. length (f x) + n) (length-flat_map f xs) ∙ sym (length-append (f x) (flat_map f xs))

pub admitted-items : (events : Record) → admitted events ≡ length (admitted_points events)
admitted-items events = length-flat_map (λ (a : AdmissionValue). a.points) (admissions events)
