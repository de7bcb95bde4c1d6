-- What a step of a loader does to the journal and to the refused rows: nothing, or it answers the loader's first batch.
use Rattle.std.proofs.Common.{◌≡◌, ℕ, Bool, true, false, cond, List, [], ◌∷◌, ◌++◌, length, set, refl, ◌∙◌, append-nil}
use Rattle.std.specs.Prelude.{Option, Some, None, nat_lt, slice_index, ◌/◌, ◌%◌}
use Rattle.std.proofs.lemmas.List.Elements.{filter_map-append}
use Rattle.cube_math.specs.Points.{PointValue}
use Rattle.cube_math.specs.Batches.{BatchValue}
use Rattle.cube_math.specs.declared.refused.Cause.{Cause}
use Rattle.list_machine.specs.Machine.{State}
use Rattle.list_machine.specs.Moves.{guest_in, leaf_in, is_blank, may_clear, word_cleared, slot_marked, list_shut}
use Rattle.list_machine.specs.declared.views.Unfiled.{Unfiled}
use Rattle.list_machine.specs.declared.views.Unfiled.TheVariants.{Nothing, Place}
use Rattle.record_model.specs.Records.{Record, entry_of, journal}
use Rattle.record_model.specs.declared.event.Event.TheVariants.{Admission, Publication}
use Rattle.sim_world.specs.Answers.{is_settled}
use Rattle.sim_world.specs.Decisions.{admission_cause, publication_cause}
use Rattle.sim_world.specs.Filings.{links_due, to_links, task_step, claimed_step, late_if, tried_if, walk_of, filing_for}
use Rattle.sim_world.specs.Jobs.{JobValue}
use Rattle.sim_world.specs.Publications.{splits_due, to_places, to_shuts, to_moves, to_marks, is_swept, marked_step, item_at_mark}
use Rattle.sim_world.specs.Steps.{admission_decided, before_admission, publication_decided, before_publication, file_step, loader_step}
use Rattle.sim_world.specs.Worlds.{Task, Filing, LoaderPlace, admits, clears_first, links, leaves_admitted, leaves_refused, files, clears_again, leaves_unpublished, gives_back, shuts, marks, moves, places, commits, leaves_published, loader, World, is_free}
use Rattle.sim_world.proofs.SeatLaws.{pick}

-- ---- journals

pub journal_goes_on : (events rest : Record) → journal (events ++ rest) ≡ journal events ++ journal rest
journal_goes_on events rest = filter_map-append entry_of events rest

pub admission_enters_nothing : (events : Record) (input a : ℕ) (points : List PointValue)
    → journal (events ++ (Admission input points, a) ∷ []) ≡ journal events
admission_enters_nothing events input a points = journal_goes_on events ((Admission input points, a) ∷ []) ∙ append-nil (journal events)

publication_enters : (events : Record) (input a : ℕ) (points : List PointValue)
    → journal (events ++ (Publication input points, a) ∷ []) ≡ journal events ++ record { input = input; loader = a; points = points } ∷ []
publication_enters events input a points = journal_goes_on events ((Publication input points, a) ∷ [])

-- ---- progress

-- what a step does with the first batch b of the loader a, which has the batches bs behind it
pub data Progress (w : World) (a : ℕ) (b : BatchValue) (bs : List BatchValue) (settled : Bool) (w' : World) : Type 0 where
  -- nothing at all
  stands : w' ≡ w → Progress w a b bs settled w'
  -- the loader goes on with it
  goes_on : (place : LoaderPlace) → w'.actors ≡ set w.actors a (loader (b ∷ bs) place) → is_settled place ≡ settled
      → journal w'.events ≡ journal w.events → w'.refused ≡ w.refused → Progress w a b bs settled w'
  -- it is refused
  refuses : (place : LoaderPlace) (cause : Cause) → w'.actors ≡ set w.actors a (loader (b ∷ bs) place) → is_settled place ≡ true → settled ≡ false
      → journal w'.events ≡ journal w.events → w'.refused ≡ w.refused ++ record { input = b.input; cause = cause } ∷ [] → Progress w a b bs settled w'
  -- it is published
  publishes : (place : LoaderPlace) → w'.actors ≡ set w.actors a (loader (b ∷ bs) place) → is_settled place ≡ true → settled ≡ false
      → journal w'.events ≡ journal w.events ++ record { input = b.input; loader = a; points = b.points } ∷ [] → w'.refused ≡ w.refused
      → Progress w a b bs settled w'
  -- the loader is done with it
  finishes : w'.actors ≡ set w.actors a (loader bs admits) → settled ≡ true → journal w'.events ≡ journal w.events → w'.refused ≡ w.refused
      → Progress w a b bs settled w'

-- ---- places that may have nothing to do

open_links : (ls : List ℕ) → is_settled (to_links ls) ≡ false
open_links [] = refl
open_links (l ∷ ls) = refl

open_places : (f : Filing) (xs : List ℕ) → is_settled (to_places f xs) ≡ false
open_places f [] = refl
open_places f (x ∷ xs) = refl

open_shuts : (f : Filing) (ls : List ℕ) → is_settled (to_shuts f ls) ≡ false
open_shuts f [] = open_places f f.late
open_shuts f (l ∷ ls) = refl

open_moves : (f : Filing) (xs ls : List ℕ) → is_settled (to_moves f xs ls) ≡ false
open_moves f [] ls = open_shuts f ls
open_moves f (x ∷ xs) ls = refl

open_marks : (s : State) (f : Filing) (l : ℕ) (found ls : List ℕ) → is_settled (to_marks s f l found ls) ≡ false
open_marks s f l found ls = by (is_swept (leaf_in s l)) where
  by : (b : Bool) → is_settled (cond b (to_moves f found ls) (marks f l found ls)) ≡ false
  by true = open_moves f found ls
  by false = refl

-- ---- steps

module _ (job : JobValue) (w : World) (a : ℕ) (b : BatchValue) (bs : List BatchValue) where
  -- after lists and turn changed
  abbrev now : State → Option ℕ → World
  now s h = record w { lists = s; holder = h }

  decided : (s : State) (h : Option ℕ) (c : Option Cause) → Progress w a b bs false (admission_decided job (now s h) a b bs c)
  decided s h (Some c) = refuses leaves_refused c refl refl refl refl refl
  decided s h None =
      goes_on (to_links (links_due (now s h) b)) refl (open_links (links_due (now s h) b)) (admission_enters_nothing w.events b.input a b.points) refl

  admitting : (s : State) (h : Option ℕ) → Progress w a b bs false (before_admission job (now s h) a b bs)
  admitting s h = pick (Progress w a b bs false) (may_clear s) _ _ (goes_on clears_first refl refl refl refl) (decided s h (admission_cause job (now s h) a b))

  published : (s : State) (h : Option ℕ) (f : Filing) (c : Option Cause) → Progress w a b bs false (publication_decided job (now s h) a b bs f c)
  published s h f (Some c) = refuses (leaves_unpublished f) c refl refl refl refl refl
  published s h f None = goes_on (to_shuts f (splits_due job (now s h) b)) refl (open_shuts f (splits_due job (now s h) b)) refl refl

  publishing : (s : State) (h : Option ℕ) (f : Filing) → Progress w a b bs false (before_publication job (now s h) a b bs f)
  publishing s h f =
      pick (Progress w a b bs false) (may_clear s) _ _ (goes_on (clears_again f) refl refl refl refl) (published s h f (publication_cause job (now s h) a b))

  claimed : (f : Filing) (x l : ℕ) (ts : List Task) (i : ℕ) (c : Bool) → Progress w a b bs false (claimed_step c w a (b ∷ bs) f x l ts i)
  claimed f x l ts i true =
      goes_on (files (tried_if (is_blank (w.lists.words.slot (slice_index (walk_of f.walks l) (i / 256)) (i % 256))) f x ts)) refl refl refl refl
  claimed f x l ts i false = goes_on (files _) refl refl refl refl

  tasked : (f : Filing) (x l : ℕ) (ts : List Task) (c : Unfiled) → Progress w a b bs false (task_step w a (b ∷ bs) f x l ts c)
  tasked f x l ts Nothing = goes_on (files (late_if (w.lists.words.claim l).high f x ts)) refl refl refl refl
  tasked f x l ts (Place h i) = claimed f x l ts i (nat_lt (i / 256) (length (walk_of f.walks l)))

  filed : (f : Filing) (ts : List Task) → Progress w a b bs false (file_step job w a b bs f ts)
  filed f [] = pick (Progress w a b bs false) (is_free w) _ _ (publishing w.lists (Some a) f) (stands refl)
  filed f (t ∷ ts) = tasked f t.item t.list ts (guest_in w.lists f.seat).claim

  swept : (f : Filing) (l : ℕ) (found ls : List ℕ) → Progress w a b bs false (marked_step w a (b ∷ bs) f l found ls)
  swept f l found ls =
      let s : State = slot_marked w.lists l in
      let more : List ℕ = found ++ item_at_mark w.lists l (leaf_in w.lists l).stage in
      goes_on (to_marks s f l more ls) refl (open_marks s f l more ls) refl refl

  pub progress : (place : LoaderPlace) → Progress w a b bs (is_settled place) (loader_step job w a b bs place)
  progress admits = pick (Progress w a b bs false) (is_free w) _ _ (admitting w.lists (Some a)) (stands refl)
  progress clears_first = admitting (word_cleared w.lists) w.holder
  progress (links []) = stands refl
  progress (links (l ∷ ls)) = goes_on (to_links ls) refl (open_links ls) refl refl
  progress leaves_admitted = goes_on (files (filing_for w b)) refl refl refl refl
  progress leaves_refused = finishes refl refl refl refl
  progress (files f) = filed f f.todo
  progress (clears_again f) = publishing (word_cleared w.lists) w.holder f
  progress (leaves_unpublished f) = goes_on (gives_back f) refl refl refl refl
  progress (gives_back f) = pick (Progress w a b bs true) (is_free w) _ _ (goes_on leaves_refused refl refl refl refl) (stands refl)
  progress (shuts f []) = stands refl
  progress (shuts f (l ∷ ls)) = goes_on (to_marks (list_shut w.lists l) f l [] ls) refl (open_marks (list_shut w.lists l) f l [] ls) refl refl
  progress (marks f l found ls) = swept f l found ls
  progress (moves f [] ls) = stands refl
  progress (moves f (x ∷ xs) ls) = goes_on (to_moves f xs ls) refl (open_moves f xs ls) refl refl
  progress (places f []) = stands refl
  progress (places f (x ∷ xs)) = goes_on (to_places f xs) refl (open_places f xs) refl refl
  progress (commits f) = publishes leaves_published refl refl refl (publication_enters w.events b.input a b.points) refl
  progress leaves_published = finishes refl refl refl refl
