-- The batches that a record admitted: where it goes on, and where their items are.
use Rattle.std.proofs.Common.{◌≡◌, ℕ, ◌+◌, ◌<◌, ◌≤◌, ◌⊎◌, inl, inr, List, [], ◌∷◌, ◌++◌, length, take, drop, get_or, Some, ap, sym, ◌∙◌, refl, arith, length-append}
use Rattle.std.specs.Prelude.{slice_get, suc, zero}
use Rattle.std.specs.List.{flat_map}
use Rattle.std.proofs.lemmas.List.{drop-drop, drop_at, take_at, get_or-take, get_or-drop}
use Rattle.std.proofs.lemmas.Option.{none-some, same_Some, slice_get-get_or}
use Rattle.cube_math.specs.Points.{PointValue}
use Rattle.record_model.specs.Admissions.{AdmissionValue, admissions_from, admitted, admitted_points}
use Rattle.record_model.specs.Records.{Record}
use Rattle.record_model.specs.declared.event.Event.TheVariants.{Admission, Look, Publication}
use Rattle.record_model.proofs.RecordLaws.{admitted-items}
use Rattle.record_book.specs.KeptBatches.{KeptValue, kept_from, kept_of, points_in}

pub kept_from-append : (first : ℕ) (events more : Record)
    → kept_from first (events ++ more) ≡ kept_from first events ++ kept_from (first + length (points_in (kept_from first events))) more
kept_from-append first [] more = ap (λ (n : ℕ). kept_from n more) (none first)
  where
    none : (n : ℕ) → n ≡ n + 0
    none n = omega arith
kept_from-append first ((Admission input points, loader) ∷ events) more =
    ap (λ (l : List KeptValue). record { input = input; loader = loader; first = first; points = points } ∷ l)
    (kept_from-append (first + length points) events more
    ∙ ap (λ (n : ℕ). kept_from (first + length points) events ++ kept_from n more)
    (along first (length points) _ _ (length-append points (points_in (kept_from (first + length points) events)))))
  where
    along : (a b c d : ℕ) → d ≡ b + c → a + b + c ≡ a + d
    along a b c d e = omega arith
kept_from-append first ((Publication input points, loader) ∷ events) more = kept_from-append first events more
kept_from-append first ((Look, pass) ∷ events) more = kept_from-append first events more

points_from : (first : ℕ) (before : List PointValue) (events : Record)
    → flat_map (λ (a : AdmissionValue). a.points) (admissions_from before events) ≡ points_in (kept_from first events)
points_from first before [] = refl
points_from first before ((Admission input points, loader) ∷ events) =
    ap (λ (l : List PointValue). points ++ l) (points_from (first + length points) before events)
points_from first before ((Publication input points, loader) ∷ events) = points_from first (before ++ points) events
points_from first before ((Look, pass) ∷ events) = points_from first before events

-- the items are those of the admitted batches
pub points_kept : (events : Record) → admitted_points events ≡ points_in (kept_of events)
points_kept events = points_from 0 [] events

pub admitted_kept : (events : Record) → admitted events ≡ length (points_in (kept_of events))
admitted_kept events = admitted-items events ∙ ap length (points_kept events)

-- no batch begins before the first item
starts : (first : ℕ) (events : Record) (place : ℕ) (b : KeptValue) → slice_get (kept_from first events) place ≡ Some b → first ≤ b.first
starts first [] place b there = absurd (none-some b there)
starts first ((Admission input points, loader) ∷ events) zero b there =
    let e = ap (λ (x : KeptValue). x.first) (same_Some _ b there) in omega arith
starts first ((Admission input points, loader) ∷ events) (suc place) b there =
    let low = starts (first + length points) events place b there in omega arith
starts first ((Publication input points, loader) ∷ events) place b there = starts first events place b there
starts first ((Look, pass) ∷ events) place b there = starts first events place b there

-- each batch ends before the later ones begin
pub ordered : (first : ℕ) (events : Record) (i j : ℕ) (a b : KeptValue) → slice_get (kept_from first events) i ≡ Some a
    → slice_get (kept_from first events) j ≡ Some b
    → i < j → a.first + length a.points ≤ b.first
ordered first [] i j a b at_i at_j low = absurd (none-some a at_i)
ordered first ((Admission input points, loader) ∷ events) zero zero a b at_i at_j low = absurd (omega arith)
ordered first ((Admission input points, loader) ∷ events) zero (suc j) a b at_i at_j low =
    let e : first + length points ≡ a.first + length a.points = ap (λ (x : KeptValue). x.first + length x.points) (same_Some _ a at_i) in
    let begins = starts (first + length points) events j b at_j in omega arith
ordered first ((Admission input points, loader) ∷ events) (suc i) zero a b at_i at_j low = absurd (omega arith)
ordered first ((Admission input points, loader) ∷ events) (suc i) (suc j) a b at_i at_j low =
    ordered (first + length points) events i j a b at_i at_j (omega arith)
ordered first ((Publication input points, loader) ∷ events) i j a b at_i at_j low = ordered first events i j a b at_i at_j low
ordered first ((Look, pass) ∷ events) i j a b at_i at_j low = ordered first events i j a b at_i at_j low

-- where the points of a batch stand among all of these
pub record IsPart (first : ℕ) (all : List PointValue) (b : KeptValue) : Type 0 where
  pub before : ℕ
  pub begins : b.first ≡ first + before
  pub part : take (length b.points) (drop before all) ≡ b.points
  pub within : before + length b.points ≤ length all

further : (first : ℕ) (points all : List PointValue) (b : KeptValue) → IsPart (first + length points) all b → IsPart first (points ++ all) b
further first points all b p = record {
  before = length points + p.before;
  begins = omega (arith, p.begins);
  part = ap (take (length b.points)) (sym (drop-drop p.before (length points) (points ++ all)) ∙ ap (drop p.before) (drop_at points all (length points) refl))
      ∙ p.part;
  within = omega (arith, p.within, length-append points all);
}

head : (first : ℕ) (points all : List PointValue) (b : KeptValue) → first ≡ b.first → points ≡ b.points → IsPart first (points ++ all) b
head first points all b begins is = record {
  before = 0;
  begins = omega arith;
  part = take_at' _ _ _ is (ap length (sym is));
  within = omega (arith, length-append points all, ap length is);
}
  where
    take_at' : (n : ℕ) (ps qs : List PointValue) → ps ≡ qs → n ≡ length ps → take n (ps ++ all) ≡ qs
    take_at' n ps qs e m = take_at ps all n (sym m) ∙ e

pub part_at : (first : ℕ) (events : Record) (place : ℕ) (b : KeptValue) → slice_get (kept_from first events) place ≡ Some b
    → IsPart first (points_in (kept_from first events)) b
part_at first [] place b there = absurd (none-some b there)
part_at first ((Admission input points, loader) ∷ events) zero b there =
    head first points (points_in (kept_from (first + length points) events)) b (ap (λ (x : KeptValue). x.first) (same_Some _ b there))
    (ap (λ (x : KeptValue). x.points) (same_Some _ b there))
part_at first ((Admission input points, loader) ∷ events) (suc place) b there =
    further first points (points_in (kept_from (first + length points) events)) b (part_at (first + length points) events place b there)
part_at first ((Publication input points, loader) ∷ events) place b there = part_at first events place b there
part_at first ((Look, pass) ∷ events) place b there = part_at first events place b there

-- a batch's items: its points are those from the number of the first on
pub part_of : (events : Record) (place : ℕ) (b : KeptValue) → slice_get (kept_of events) place ≡ Some b
    → take (length b.points) (drop b.first (points_in (kept_of events))) ≡ b.points
part_of events place b there =
    let p = part_at 0 events place b there in
    let e : b.first ≡ p.before = omega (arith, p.begins) in
    ap (λ (n : ℕ). take (length b.points) (drop n (points_in (kept_of events)))) e ∙ p.part

pub ends_within : (events : Record) (place : ℕ) (b : KeptValue) → slice_get (kept_of events) place ≡ Some b
    → b.first + length b.points ≤ length (points_in (kept_of events))
ends_within events place b there = let p = part_at 0 events place b there in omega (arith, p.begins, p.within)

-- the point of an item
pub item_of : (events : Record) (place : ℕ) (b : KeptValue) (j : ℕ) (d : PointValue) → slice_get (kept_of events) place ≡ Some b → j < length b.points
    → slice_get (points_in (kept_of events)) (b.first + j) ≡ Some (get_or b.points j d)
item_of events place b j d there low =
    let all : List PointValue = points_in (kept_of events) in
    let ends = ends_within events place b there in
    slice_get-get_or all (b.first + j) d (omega arith)
    ∙ ap Some (sym (get_or-drop b.first all j d) ∙ sym (get_or-take (length b.points) (drop b.first all) j d low)
    ∙ ap (λ (l : List PointValue). get_or l j d) (part_of events place b there))

-- the first batch of events begins at the first item, where there is one
pub first_batch : (first : ℕ) (events : Record)
    → (kept_from first events ≡ []) ⊎ ((b : KeptValue) × (slice_get (kept_from first events) 0 ≡ Some b) × (b.first ≡ first))
first_batch first [] = inl refl
first_batch first ((Admission input points, loader) ∷ events) = inr (record { input = input; loader = loader; first = first; points = points }, refl, refl)
first_batch first ((Publication input points, loader) ∷ events) = first_batch first events
first_batch first ((Look, pass) ∷ events) = first_batch first events

-- an item that no later batch has, but some batch, is before the end of this one
pub covers : (first : ℕ) (events : Record) (place : ℕ) (b : KeptValue) (item : ℕ) → slice_get (kept_from first events) place ≡ Some b
    → ((c : KeptValue) → slice_get (kept_from first events) (suc place) ≡ Some c → item < c.first) → item < first + length (points_in (kept_from first events))
    → item < b.first + length b.points
covers first [] place b item there later low = absurd (none-some b there)
covers first ((Admission input points, loader) ∷ events) zero b item there later low =
    let e : first + length points ≡ b.first + length b.points = ap (λ (x : KeptValue). x.first + length x.points) (same_Some _ b there) in
    at_head (first + length points) events (first_batch (first + length points) events) e
    (omega (arith, low, length-append points (points_in (kept_from (first + length points) events)))) later
  where
    at_head : (next : ℕ) (rest : Record) → (kept_from next rest ≡ []) ⊎ ((c : KeptValue) × (slice_get (kept_from next rest) 0 ≡ Some c) × (c.first ≡ next))
        → next ≡ b.first + length b.points → item < next + length (points_in (kept_from next rest))
        → ((c : KeptValue) → slice_get (kept_from next rest) 0 ≡ Some c → item < c.first)
        → item < b.first + length b.points
    at_head next rest (inl none) e low later = omega (arith, low, e, ap (λ (l : List KeptValue). length (points_in l)) none)
    at_head next rest (inr (c, there, begins)) e low later = omega (arith, later c there, begins, e)
covers first ((Admission input points, loader) ∷ events) (suc place) b item there later low =
    covers (first + length points) events place b item there later
    (omega (arith, low, length-append points (points_in (kept_from (first + length points) events))))
covers first ((Publication input points, loader) ∷ events) place b item there later low = covers first events place b item there later low
covers first ((Look, pass) ∷ events) place b item there later low = covers first events place b item there later low

-- the admission of a kept batch
pub record IsAdmitted (first : ℕ) (events : Record) (b : KeptValue) : Type 0 where
  pub before : Record
  pub behind : Record
  pub is : before ++ (Admission b.input b.points, b.loader) ∷ behind ≡ events
  pub begins : b.first ≡ first + length (points_in (kept_from first before))

pub admission_at : (first : ℕ) (events : Record) (place : ℕ) (b : KeptValue) → slice_get (kept_from first events) place ≡ Some b → IsAdmitted first events b
admission_at first [] place b there = absurd (none-some b there)
admission_at first ((Admission input points, loader) ∷ events) zero b there = record {
  before = [];
  behind = events;
  is = ap (λ (x : KeptValue). (Admission x.input x.points, x.loader) ∷ events) (sym (same_Some _ b there));
  begins = let e = ap (λ (x : KeptValue). x.first) (same_Some _ b there) in omega arith;
}
admission_at first ((Admission input points, loader) ∷ events) (suc place) b there =
    let a = admission_at (first + length points) events place b there in record {
      before = (Admission input points, loader) ∷ a.before;
      behind = a.behind;
      is = ap (λ (l : Record). (Admission input points, loader) ∷ l) a.is;
      begins = omega (arith, a.begins, length-append points (points_in (kept_from (first + length points) a.before)));
    }
admission_at first ((Publication input points, loader) ∷ events) place b there =
    let a = admission_at first events place b there in record {
      before = (Publication input points, loader) ∷ a.before;
      behind = a.behind;
      is = ap (λ (l : Record). (Publication input points, loader) ∷ l) a.is;
      begins = a.begins;
    }
admission_at first ((Look, pass) ∷ events) place b there =
    let a = admission_at first events place b there in record {
      before = (Look, pass) ∷ a.before;
      behind = a.behind;
      is = ap (λ (l : Record). (Look, pass) ∷ l) a.is;
      begins = a.begins;
    }
