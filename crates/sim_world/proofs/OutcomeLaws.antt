-- What a step of a loader does to the parts that all actors share: the places in the scripts, the number of seats, the record.
use Rattle.std.proofs.Common.{◌≡◌, ℕ, suc, ◌≤◌, Bool, true, false, cond, List, [], ◌∷◌, ◌++◌, length, set, refl, ap, arith, append-nil}
use Rattle.std.specs.Prelude.{Some, None, Option, slice_index, nat_lt, ◌/◌, ◌%◌}
use Rattle.cube_math.specs.Batches.{BatchValue}
use Rattle.cube_math.specs.declared.refused.Cause.{Cause}
use Rattle.std.proofs.lemmas.List.{length-set}
use Rattle.list_machine.specs.Steps.{newcomer}
use Rattle.list_machine.specs.Machine.{State}
use Rattle.list_machine.specs.declared.views.Guest.{Guest}
use Rattle.list_machine.specs.declared.views.Unfiled.{Unfiled}
use Rattle.list_machine.specs.declared.views.Unfiled.TheVariants.{Nothing, Place}
use Rattle.sim_world.proofs.SeatLaws.{pick, loader_seat, clear_guests, mark_guests, adopt_guests}
use Rattle.list_machine.specs.Moves.{slot_marked, filed_if, guest_in, is_blank, leaf_in, list_shut, may_clear, word_cleared}
use Rattle.record_model.specs.Records.{Record}
use Rattle.sim_world.specs.Decisions.{admission_cause, publication_cause}
use Rattle.sim_world.specs.Filings.{claimed_step, filing_for, grants_for, late_if, links_due, task_step, to_links, tried_if, walk_of}
use Rattle.sim_world.specs.Jobs.{JobValue}
use Rattle.sim_world.specs.Publications.{item_at_mark, marked_step, is_swept, new_rows, splits_due, to_marks, to_moves, to_places, to_shuts}
use Rattle.sim_world.specs.Steps.{admission_decided, before_admission, before_publication, file_step, loader_step, publication_decided}
use Rattle.sim_world.specs.Views.{looks_of}
use Rattle.sim_world.specs.Worlds.{Filing, LoaderPlace, Task, World, admits, clears_again, clears_first, commits, files, gives_back, is_free, leaves_admitted, leaves_published, leaves_refused, leaves_unpublished, links, loader, marks, moves, places, shuts}

pub length_more : {X : Type 0} (xs : List X) (x : X) → length (xs ++ x ∷ []) ≡ suc (length xs)
length_more [] x = refl
length_more (y ∷ ys) x = ap suc (length_more ys x)

-- the seat of a place that follows another one: none, the same, or a new one
pub data SeatAfter (before after : Option ℕ) (n m : ℕ) : Type 0 where
  no_seat : after ≡ None → n ≤ m → SeatAfter before after n m
  same_seat : after ≡ before → n ≤ m → SeatAfter before after n m
  new_seat : after ≡ Some n → m ≡ suc n → SeatAfter before after n m

-- nothing happened, or the actor goes on to another place, and nobody looks
pub data Outcome (w : World) (a : ℕ) (seat : Option ℕ) (w' : World) : Type 0 where
  nothing : w' ≡ w → Outcome w a seat w'
  loads : (bs : List BatchValue) (place : LoaderPlace) → w'.actors ≡ set w.actors a (loader bs place)
      → SeatAfter seat (loader_seat place) (length w.lists.guests) (length w'.lists.guests)
      → (rest : Record) → w.events ++ rest ≡ w'.events → ((b : ℕ) → looks_of b rest ≡ 0) → w'.views ≡ w.views → Outcome w a seat w'

seat_to_places : (f : Filing) (xs : List ℕ) → loader_seat (to_places f xs) ≡ Some f.seat
seat_to_places f [] = refl
seat_to_places f (x ∷ xs) = refl

seat_to_shuts : (f : Filing) (ls : List ℕ) → loader_seat (to_shuts f ls) ≡ Some f.seat
seat_to_shuts f [] = seat_to_places f f.late
seat_to_shuts f (l ∷ ls) = refl

seat_to_moves : (f : Filing) (xs ls : List ℕ) → loader_seat (to_moves f xs ls) ≡ Some f.seat
seat_to_moves f [] ls = seat_to_shuts f ls
seat_to_moves f (x ∷ xs) ls = refl

seat_to_marks : (s : State) (f : Filing) (l : ℕ) (found ls : List ℕ) → loader_seat (to_marks s f l found ls) ≡ Some f.seat
seat_to_marks s f l found ls = by (is_swept (leaf_in s l)) where
  by : (b : Bool) → loader_seat (cond b (to_moves f found ls) (marks f l found ls)) ≡ Some f.seat
  by true = seat_to_moves f found ls
  by false = refl

seat_late : (b : Bool) (f : Filing) (x : ℕ) (ts : List Task) → (late_if b f x ts).seat ≡ f.seat
seat_late true f x ts = refl
seat_late false f x ts = refl

seat_tried : (b : Bool) (f : Filing) (x : ℕ) (ts : List Task) → (tried_if b f x ts).seat ≡ f.seat
seat_tried true f x ts = refl
seat_tried false f x ts = refl

seat_to_links : (ls : List ℕ) → loader_seat (to_links ls) ≡ None
seat_to_links [] = refl
seat_to_links (l ∷ ls) = refl

module _ (job : JobValue) (w : World) (a : ℕ) where
  same : length w.lists.guests ≤ length w.lists.guests
  same = omega arith

  at_end : w.events ++ [] ≡ w.events
  at_end = append-nil w.events

  -- after words and views of the owner changed
  abbrev now : State → Option ℕ → World
  now s h = record w { lists = s; holder = h }

  set_same : (j : ℕ) (v : Guest) → length w.lists.guests ≤ length (set w.lists.guests j v)
  set_same j v = let e = length-set w.lists.guests j v in omega arith

  decided : (s : State) (h : Option ℕ) (seat : Option ℕ) (b : BatchValue) (bs : List BatchValue) (c : Option Cause)
      → length w.lists.guests ≤ length s.guests → Outcome w a seat (admission_decided job (now s h) a b bs c)
  decided s h seat b bs (Some c) le = loads (b ∷ bs) leaves_refused refl (no_seat refl le) [] at_end (λ x. refl) refl
  decided s h seat b bs None le =
      loads (b ∷ bs) (to_links (links_due (now s h) b)) refl (no_seat (seat_to_links (links_due (now s h) b)) le) (_ ∷ []) refl (λ x. refl) refl

  admitting : (s : State) (h : Option ℕ) (seat : Option ℕ) (b : BatchValue) (bs : List BatchValue) → length w.lists.guests ≤ length s.guests
      → Outcome w a seat (before_admission job (now s h) a b bs)
  admitting s h seat b bs le =
      pick (Outcome w a seat) (may_clear s) _ _ (loads (b ∷ bs) clears_first refl (no_seat refl le) [] at_end (λ x. refl) refl)
      (decided s h seat b bs (admission_cause job (now s h) a b) le)

  published : (s : State) (h : Option ℕ) (b : BatchValue) (bs : List BatchValue) (f : Filing) (c : Option Cause)
      → length w.lists.guests ≤ length s.guests → Outcome w a (Some f.seat) (publication_decided job (now s h) a b bs f c)
  published s h b bs f (Some c) le = loads (b ∷ bs) (leaves_unpublished f) refl (same_seat refl le) [] at_end (λ x. refl) refl
  published s h b bs f None le =
      let e = ap length (adopt_guests job (now s h) (new_rows job (now s h) b) s) in
      loads (b ∷ bs) (to_shuts f (splits_due job (now s h) b)) refl
      (same_seat (seat_to_shuts f (splits_due job (now s h) b)) (omega arith)) [] at_end (λ x. refl) refl

  publishing : (s : State) (h : Option ℕ) (b : BatchValue) (bs : List BatchValue) (f : Filing) → length w.lists.guests ≤ length s.guests
      → Outcome w a (Some f.seat) (before_publication job (now s h) a b bs f)
  publishing s h b bs f le =
      pick (Outcome w a (Some f.seat)) (may_clear s) _ _ (loads (b ∷ bs) (clears_again f) refl (same_seat refl le) [] at_end (λ x. refl) refl)
      (published s h b bs f (publication_cause job (now s h) a b) le)

  cleared : length w.lists.guests ≤ length (word_cleared w.lists).guests
  cleared = let e = ap length (clear_guests w.lists) in omega arith

  filed_guests : (b : Bool) (j l c k x : ℕ) → length w.lists.guests ≤ length (filed_if b w.lists j l c k x).guests
  filed_guests true j l c k x = set_same j _
  filed_guests false j l c k x = set_same j _

  claimed : (bs : List BatchValue) (f : Filing) (x l : ℕ) (ts : List Task) (i : ℕ) (b : Bool) → Outcome w a (Some f.seat) (claimed_step b w a bs f x l ts i)
  claimed bs f x l ts i true =
      let c : ℕ = slice_index (walk_of f.walks l) (i / 256) in
      let b : Bool = is_blank (w.lists.words.slot c (i % 256)) in
      loads bs (files (tried_if b f x ts)) refl (same_seat (ap Some (seat_tried b f x ts)) (filed_guests b f.seat l c (i % 256) x)) [] at_end (λ x. refl) refl
  claimed bs f x l ts i false = loads bs (files _) refl (same_seat refl (set_same f.seat _)) [] at_end (λ x. refl) refl

  tasked : (bs : List BatchValue) (f : Filing) (x l : ℕ) (ts : List Task) (c : Unfiled) → Outcome w a (Some f.seat) (task_step w a bs f x l ts c)
  tasked bs f x l ts Nothing =
      loads bs (files (late_if (w.lists.words.claim l).high f x ts)) refl
      (same_seat (ap Some (seat_late (w.lists.words.claim l).high f x ts)) (set_same f.seat _)) [] at_end (λ x. refl) refl
  tasked bs f x l ts (Place h i) = claimed bs f x l ts i (nat_lt (i / 256) (length (walk_of f.walks l)))

  filed : (b : BatchValue) (bs : List BatchValue) (f : Filing) (ts : List Task) → Outcome w a (Some f.seat) (file_step job w a b bs f ts)
  filed b bs f [] = pick (Outcome w a (Some f.seat)) (is_free w) _ _ (publishing w.lists (Some a) b bs f same) (nothing refl)
  filed b bs f (t ∷ ts) = tasked (b ∷ bs) f t.item t.list ts (guest_in w.lists f.seat).claim

  swept : (bs : List BatchValue) (f : Filing) (l : ℕ) (found ls : List ℕ) → Outcome w a (Some f.seat) (marked_step w a bs f l found ls)
  swept bs f l found ls =
      let s : State = slot_marked w.lists l in
      let more : List ℕ = found ++ item_at_mark w.lists l (leaf_in w.lists l).stage in
      let e = ap length (mark_guests w.lists l) in
      loads bs (to_marks s f l more ls) refl (same_seat (seat_to_marks s f l more ls) (omega arith)) [] at_end (λ x. refl) refl

  pub loading : (b : BatchValue) (bs : List BatchValue) (place : LoaderPlace) → Outcome w a (loader_seat place) (loader_step job w a b bs place)
  loading b bs admits = pick (Outcome w a None) (is_free w) _ _ (admitting w.lists (Some a) None b bs same) (nothing refl)
  loading b bs clears_first = admitting (word_cleared w.lists) w.holder None b bs cleared
  loading b bs (links []) = nothing refl
  loading b bs (links (l ∷ ls)) = loads (b ∷ bs) (to_links ls) refl (no_seat (seat_to_links ls) same) [] at_end (λ x. refl) refl
  loading b bs leaves_admitted =
      loads (b ∷ bs) (files (filing_for w b)) refl (new_seat refl (length_more w.lists.guests (newcomer w.lists.owner (grants_for w b)))) [] at_end
      (λ x. refl) refl
  loading b bs leaves_refused = loads bs admits refl (no_seat refl same) [] at_end (λ x. refl) refl
  loading b bs (files f) = filed b bs f f.todo
  loading b bs (clears_again f) = publishing (word_cleared w.lists) w.holder b bs f cleared
  loading b bs (leaves_unpublished f) = loads (b ∷ bs) (gives_back f) refl (same_seat refl same) [] at_end (λ x. refl) refl
  loading b bs (gives_back f) =
      pick (Outcome w a (Some f.seat)) (is_free w) _ _
      (loads (b ∷ bs) leaves_refused refl (no_seat refl (set_same f.seat _)) [] at_end (λ x. refl) refl) (nothing refl)
  loading b bs (shuts f []) = nothing refl
  loading b bs (shuts f (l ∷ ls)) =
      loads (b ∷ bs) (to_marks (list_shut w.lists l) f l [] ls) refl (same_seat (seat_to_marks (list_shut w.lists l) f l [] ls) same) [] at_end (λ x. refl) refl
  loading b bs (marks f l found ls) = swept (b ∷ bs) f l found ls
  loading b bs (moves f [] ls) = nothing refl
  loading b bs (moves f (x ∷ xs) ls) = loads (b ∷ bs) (to_moves f xs ls) refl (same_seat (seat_to_moves f xs ls) same) [] at_end (λ x. refl) refl
  loading b bs (places f []) = nothing refl
  loading b bs (places f (x ∷ xs)) = loads (b ∷ bs) (to_places f xs) refl (same_seat (seat_to_places f xs) same) [] at_end (λ x. refl) refl
  loading b bs (commits f) = loads (b ∷ bs) leaves_published refl (no_seat refl (set_same f.seat _)) (_ ∷ []) refl (λ x. refl) refl
  loading b bs leaves_published = loads bs admits refl (no_seat refl same) [] at_end (λ x. refl) refl
