-- What a step of one actor leaves to the others: their seats, and their places in their scripts.
use Rattle.std.proofs.Common.{◌≡◌, ℕ, zero, suc, ◌≢◌, Bool, true, false, cond, List, [], ◌∷◌, length, refl, sym, ◌∙◌, subst}
use Rattle.std.specs.Prelude.{Some, None, Option, slice_get, slice_index, nat_lt, ◌==◌, ◌*◌, ◌/◌, ◌%◌}
use Rattle.cube_math.specs.Batches.{BatchValue}
use Rattle.cube_math.specs.declared.refused.Cause.{Cause}
use Rattle.list_machine.specs.Facts.{IsAt}
use Rattle.list_machine.specs.Machine.{State}
use Rattle.list_machine.specs.declared.views.Guest.{Guest}
use Rattle.list_machine.specs.declared.views.Stage.{Stage}
use Rattle.list_machine.specs.declared.views.Stage.TheVariants.{Open, Swept, Cleared}
use Rattle.list_machine.specs.declared.views.Unfiled.{Unfiled}
use Rattle.list_machine.specs.declared.views.Unfiled.TheVariants.{Nothing, Place}
use Rattle.list_machine.proofs.Lists.{at_left, at_set_other}
use Rattle.octree_model.specs.Octree.{inside}
use Rattle.chunk_pool.specs.Amounts.{chunks_for}
use Rattle.list_machine.specs.Moves.{next_to_clear, slot_marked, marked_by, chunk_adopted, chunk_count, cleared_by, ended_if, filed_if, guest_in, is_blank, leaf_in, may_clear, word_cleared}
use Rattle.record_model.specs.Admissions.{admitted_points}
use Rattle.sim_world.specs.Decisions.{admission_cause, publication_cause}
use Rattle.sim_world.specs.Filings.{claimed_step, task_step, walk_of}
use Rattle.sim_world.specs.Frames.{goes_on, read_step}
use Rattle.sim_world.specs.Jobs.{JobValue}
use Rattle.sim_world.specs.Publications.{marked_step, adopted_for, adopted_times, new_rows}
use Rattle.sim_world.specs.Steps.{actor_step, admission_decided, before_admission, before_publication, file_step, loader_step, publication_decided, step, viewer_step}
use Rattle.sim_world.specs.Versions.{LeafRow}
use Rattle.sim_world.specs.Worlds.{Actor, Filing, LoaderPlace, Look, Slot, Task, ViewerPlace, World, admits, clears_again, clears_first, commits, entered, files, gives_back, is_free, leaves_admitted, leaves_looked, leaves_published, leaves_refused, leaves_returned, leaves_unpublished, left, links, loader, looks, marks, moves, places, reads, returns, shuts, viewer, with_lists}

-- what holds of both holds of the one that is chosen
pub pick : {X : Type 0} (P : X → Type 0) (b : Bool) (x y : X) → P x → P y → P (cond b x y)
pick P true x y p q = p
pick P false x y p q = q

-- the seat that an actor has
abbrev pub loader_seat : LoaderPlace → Option ℕ
loader_seat admits = None
loader_seat clears_first = None
loader_seat (links ls) = None
loader_seat leaves_admitted = None
loader_seat leaves_refused = None
loader_seat (files f) = Some f.seat
loader_seat (clears_again f) = Some f.seat
loader_seat (leaves_unpublished f) = Some f.seat
loader_seat (gives_back f) = Some f.seat
loader_seat (shuts f ls) = Some f.seat
loader_seat (marks f l found ls) = Some f.seat
loader_seat (moves f items ls) = Some f.seat
loader_seat (places f items) = Some f.seat
loader_seat (commits f) = Some f.seat
loader_seat leaves_published = None

abbrev pub viewer_seat : ViewerPlace → Option ℕ
viewer_seat looks = None
viewer_seat (leaves_looked v) = Some v.seat
viewer_seat (reads v) = Some v.seat
viewer_seat (returns v) = Some v.seat
viewer_seat leaves_returned = None

abbrev pub seat_of : Actor → Option ℕ
seat_of (loader bs place) = loader_seat place
seat_of (viewer n place) = viewer_seat place

-- clearing changes no seat
pub clear_guests : (s : State) → (word_cleared s).guests ≡ s.guests
clear_guests s = by (next_to_clear s) (leaf_in s (next_to_clear s)).stage where
  ended : (b : Bool) (t : State) (l : ℕ) → t.guests ≡ s.guests → (ended_if b t l).guests ≡ s.guests
  ended true t l e = e
  ended false t l e = e

  by : (l : ℕ) (t : Stage) → (cleared_by s l t).guests ≡ s.guests
  by l Open = refl
  by l (Swept p f m) = ended (chunk_count (leaf_in s l) == 0) _ l refl
  by l (Cleared p n) = ended (n == 257 * chunk_count (leaf_in s l)) _ l refl

-- so does a mark
pub mark_guests : (s : State) (l : ℕ) → (slot_marked s l).guests ≡ s.guests
mark_guests s l = by (leaf_in s l).stage where
  by : (t : Stage) → (marked_by s l t).guests ≡ s.guests
  by Open = refl
  by (Swept p f m) = refl
  by (Cleared p n) = refl

-- and adopting neither
times_guests : (chunks n : ℕ) (s : State) (l : ℕ) → (adopted_times chunks n s l).guests ≡ s.guests
times_guests chunks zero s l = refl
times_guests chunks (suc n) s l = times_guests chunks n (chunk_adopted s l _) l

pub adopt_guests : (job : JobValue) (w : World) (rs : List LeafRow) (s : State) → (adopted_for job w rs s).guests ≡ s.guests
adopt_guests job w [] s = refl
adopt_guests job w (r ∷ rs) s =
    let n : ℕ = chunks_for (length (inside r.cube (admitted_points w.events))) in
    adopt_guests job w rs (adopted_times job.config.chunks n s r.list) ∙ times_guests job.config.chunks n s r.list

-- the seat j has this view
record KeepsIn (j : ℕ) (v : Guest) (w : World) : Type 0 where
  at : IsAt w.lists.guests j v

record KeepsAt (j : ℕ) (v : Guest) (s : State) : Type 0 where
  at : IsAt s.guests j v

module _ (job : JobValue) (a j : ℕ) (v : Guest) where
  abbrev Keeps : World → Type 0
  Keeps w = KeepsIn j v w

  abbrev Holds : State → Type 0
  Holds s = KeepsAt j v s

  decided : (w : World) (b : BatchValue) (bs : List BatchValue) (c : Option Cause) → Keeps w → Keeps (admission_decided job w a b bs c)
  decided w b bs (Some c) p = record { at = p.at }
  decided w b bs None p = record { at = p.at }

  admitting : (w : World) (b : BatchValue) (bs : List BatchValue) → Keeps w → Keeps (before_admission job w a b bs)
  admitting w b bs p = pick Keeps (may_clear w.lists) _ _ (record { at = p.at }) (decided w b bs (admission_cause job w a b) p)

  published : (w : World) (b : BatchValue) (bs : List BatchValue) (f : Filing) (c : Option Cause) → Keeps w → Keeps (publication_decided job w a b bs f c)
  published w b bs f (Some c) p = record { at = p.at }
  published w b bs f None p = record { at = subst (λ (gs : List Guest). IsAt gs j v) (sym (adopt_guests job w (new_rows job w b) w.lists)) p.at }

  publishing : (w : World) (b : BatchValue) (bs : List BatchValue) (f : Filing) → Keeps w → Keeps (before_publication job w a b bs f)
  publishing w b bs f p = pick Keeps (may_clear w.lists) _ _ (record { at = p.at }) (published w b bs f (publication_cause job w a b) p)

  cleared : (w : World) → Keeps w → Keeps (with_lists w (word_cleared w.lists))
  cleared w p = record { at = subst (λ (gs : List Guest). IsAt gs j v) (sym (clear_guests w.lists)) p.at }

  file_guests : (b : Bool) (s : State) (i l c k x : ℕ) → j ≢ i → IsAt s.guests j v → IsAt (filed_if b s i l c k x).guests j v
  file_guests true s i l c k x ne p = at_set_other s.guests i j _ v ne p
  file_guests false s i l c k x ne p = at_set_other s.guests i j _ v ne p

  claimed : (w : World) (bs : List BatchValue) (f : Filing) (x l : ℕ) (ts : List Task) (i : ℕ) → j ≢ f.seat → (b : Bool) → Keeps w
      → Keeps (claimed_step b w a bs f x l ts i)
  claimed w bs f x l ts i ne true p =
      let c : ℕ = slice_index (walk_of f.walks l) (i / 256) in
      record { at = file_guests (is_blank (w.lists.words.slot c (i % 256))) w.lists f.seat l c (i % 256) x ne p.at }
  claimed w bs f x l ts i ne false p = record { at = at_set_other w.lists.guests f.seat j _ v ne p.at }

  tasked : (w : World) (bs : List BatchValue) (f : Filing) (x l : ℕ) (ts : List Task) (c : Unfiled) → j ≢ f.seat → Keeps w → Keeps (task_step w a bs f x l ts c)
  tasked w bs f x l ts Nothing ne p = record { at = at_set_other w.lists.guests f.seat j _ v ne p.at }
  tasked w bs f x l ts (Place h i) ne p = claimed w bs f x l ts i ne (nat_lt (i / 256) (length (walk_of f.walks l))) p

  filed : (w : World) (b : BatchValue) (bs : List BatchValue) (f : Filing) (ts : List Task) → j ≢ f.seat → Keeps w → Keeps (file_step job w a b bs f ts)
  filed w b bs f [] ne p = pick Keeps (is_free w) _ _ (publishing (entered w a) b bs f (record { at = p.at })) p
  filed w b bs f (t ∷ ts) ne p = tasked w (b ∷ bs) f t.item t.list ts (guest_in w.lists f.seat).claim ne p

  swept : (w : World) (bs : List BatchValue) (f : Filing) (l : ℕ) (found ls : List ℕ) → Keeps w → Keeps (marked_step w a bs f l found ls)
  swept w bs f l found ls p = record { at = subst (λ (gs : List Guest). IsAt gs j v) (sym (mark_guests w.lists l)) p.at }

  loading : (w : World) (b : BatchValue) (bs : List BatchValue) (place : LoaderPlace) → ((k : ℕ) → loader_seat place ≡ Some k → j ≢ k) → Keeps w
      → Keeps (loader_step job w a b bs place)
  loading w b bs admits ne p = pick Keeps (is_free w) _ _ (admitting (entered w a) b bs (record { at = p.at })) p
  loading w b bs clears_first ne p = admitting _ b bs (cleared w p)
  loading w b bs (links []) ne p = record { at = p.at }
  loading w b bs (links (l ∷ ls)) ne p = record { at = p.at }
  loading w b bs leaves_admitted ne p = record { at = at_left w.lists.guests _ j v p.at }
  loading w b bs leaves_refused ne p = record { at = p.at }
  loading w b bs (files f) ne p = filed w b bs f f.todo (ne f.seat refl) p
  loading w b bs (clears_again f) ne p = publishing _ b bs f (cleared w p)
  loading w b bs (leaves_unpublished f) ne p = record { at = p.at }
  loading w b bs (gives_back f) ne p = pick Keeps (is_free w) _ _ (record { at = at_set_other w.lists.guests f.seat j _ v (ne f.seat refl) p.at }) p
  loading w b bs (shuts f []) ne p = record { at = p.at }
  loading w b bs (shuts f (l ∷ ls)) ne p = record { at = p.at }
  loading w b bs (marks f l found ls) ne p = swept w (b ∷ bs) f l found ls p
  loading w b bs (moves f [] ls) ne p = record { at = p.at }
  loading w b bs (moves f (x ∷ xs) ls) ne p = record { at = p.at }
  loading w b bs (places f []) ne p = record { at = p.at }
  loading w b bs (places f (x ∷ xs)) ne p = record { at = p.at }
  loading w b bs (commits f) ne p = record { at = at_set_other w.lists.guests f.seat j _ v (ne f.seat refl) p.at }
  loading w b bs leaves_published ne p = record { at = p.at }

  read : (w : World) (n : ℕ) (k : Look) (ds : List Slot) → Keeps w → Keeps (goes_on job w a n k ds)
  read w n k [] p = record { at = p.at }
  read w n k (d ∷ ds) p = record { at = p.at }

  reading : (w : World) (n : ℕ) (k : Look) (ds : List Slot) → Keeps w → Keeps (read_step job w a n k ds)
  reading w n k [] p = record { at = p.at }
  reading w n k (d ∷ ds) p = read w n _ ds p

  viewing : (w : World) (n : ℕ) (place : ViewerPlace) → ((k : ℕ) → viewer_seat place ≡ Some k → j ≢ k) → Keeps w → Keeps (viewer_step job w a n place)
  viewing w n looks ne p = pick Keeps (is_free w) _ _ (record { at = at_left w.lists.guests _ j v p.at }) p
  viewing w n (leaves_looked k) ne p = read (left w) n k k.todo (record { at = p.at })
  viewing w n (reads k) ne p = reading w n k k.todo p
  viewing w n (returns k) ne p = pick Keeps (is_free w) _ _ (record { at = at_set_other w.lists.guests k.seat j _ v (ne k.seat refl) p.at }) p
  viewing w n leaves_returned ne p = record { at = p.at }

  acting : (w : World) (x : Option Actor) → ((y : Actor) (k : ℕ) → x ≡ Some y → seat_of y ≡ Some k → j ≢ k) → Keeps w → Keeps (actor_step job w a x)
  acting w None ne p = record { at = p.at }
  acting w (Some (loader [] place)) ne p = record { at = p.at }
  acting w (Some (loader (b ∷ bs) place)) ne p = loading w b bs place (λ k. ne _ k refl) p
  acting w (Some (viewer n place)) ne p = pick Keeps (nat_lt job.frames n) _ _ p (viewing w n place (λ k. ne _ k refl) p)

  -- a step of an actor leaves each seat that is not its own
  pub others_stay : (w : World) → ((y : Actor) (k : ℕ) → IsAt w.actors a y → seat_of y ≡ Some k → j ≢ k) → IsAt w.lists.guests j v
      → IsAt (step job w a).lists.guests j v
  unfolding step
  others_stay w ne p = (acting w (slice_get w.actors a) ne (record { at = p })).at

  -- the same of an actor that is known
  pub actor_stays : (w : World) (x : Option Actor) → ((y : Actor) (k : ℕ) → x ≡ Some y → seat_of y ≡ Some k → j ≢ k) → IsAt w.lists.guests j v
      → IsAt (actor_step job w a x).lists.guests j v
  actor_stays w x ne p = (acting w x ne (record { at = p })).at
