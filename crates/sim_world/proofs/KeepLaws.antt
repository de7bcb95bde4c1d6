-- The lists of a version stay open, and the owner keeps what it knows of their items, through all steps but those from a shut to the
-- commit. So the version stays current.
use Rattle.std.proofs.Common.{◌≡◌, ◌==◌, ℕ, zero, suc, ◌-◌, ◌*◌, ◌/◌, ◌%◌, ◌≢◌, Bool, true, false, cond, not, List, [], ◌∷◌, ◌++◌, length, set, refl, sym, ap, ◌∙◌, subst, arith, append-nil}
use Rattle.std.specs.Prelude.{Option, Some, None, slice_get, slice_index, slice_index_or, nat_lt}
use Rattle.std.proofs.lemmas.Bool.Decides.{nat_tests}
use Rattle.chunk_pool.specs.Amounts.{chunks_for}
use Rattle.cube_math.specs.Batches.{BatchValue}
use Rattle.cube_math.specs.declared.refused.Cause.{Cause}
use Rattle.octree_model.specs.Octree.{inside}
use Rattle.list_machine.specs.Words.{blank}
use Rattle.list_machine.specs.State.{Words, put_link, put_slot}
use Rattle.list_machine.specs.Facts.{IsAt}
use Rattle.list_machine.specs.Machine.{State, state}
use Rattle.list_machine.specs.Moves.{guest_in, leaf_in, is_blank, filed_if, ended_if, chunk_count, may_clear, word_cleared, cleared_by, next_to_clear, chunk_linked, chunk_adopted, seat_made, seat_joined}
use Rattle.list_machine.specs.Steps.{opening_leaf, with_leaf, with_stage, with_claimed, with_owned, without_chains, after_first_clear, is_kept}
use Rattle.list_machine.specs.declared.views.Fact.{Fact}
use Rattle.list_machine.specs.declared.views.Fact.TheVariants.{Item}
use Rattle.list_machine.specs.declared.views.Grant.{Grant}
use Rattle.list_machine.specs.declared.views.Leaf.{Leaf}
use Rattle.list_machine.specs.declared.views.LinkWord.TheVariants.{OfList, OfChunk}
use Rattle.list_machine.specs.declared.views.Owner.{Owner}
use Rattle.list_machine.specs.declared.views.Stage.{Stage}
use Rattle.list_machine.specs.declared.views.Stage.TheVariants.{Open, Swept, Cleared}
use Rattle.list_machine.specs.declared.views.Unfiled.{Unfiled}
use Rattle.list_machine.specs.declared.views.Unfiled.TheVariants.{Nothing, Place}
use Rattle.list_machine.proofs.Lists.{at_set, at_set_same}
use Rattle.list_machine.proofs.Seats.{each_granting}
use Rattle.record_model.specs.Admissions.{admitted_points}
use Rattle.record_model.specs.Records.{journal}
use Rattle.record_model.specs.declared.event.Event.TheVariants.{Look as Looked}
use Rattle.sim_world.specs.Chunks.{least_free}
use Rattle.sim_world.specs.Decisions.{admission_cause, publication_cause}
use Rattle.sim_world.specs.Filings.{task_step, claimed_step, walk_of}
use Rattle.sim_world.specs.Frames.{goes_on, read_step}
use Rattle.sim_world.specs.Jobs.{JobValue}
use Rattle.sim_world.specs.Publications.{adopted_for, adopted_times, new_rows}
use Rattle.sim_world.specs.Steps.{admission_decided, before_admission, publication_decided, before_publication, file_step, loader_step, viewer_step, actor_step, step}
use Rattle.sim_world.specs.Stores.{IsIn, IsVersion, IsCurrent, is_sweeping, is_sweeper}
use Rattle.sim_world.specs.Versions.{LeafRow, WorldVersion, entries, published_items}
use Rattle.sim_world.specs.Worlds.{Task, Filing, Slot, Look, LoaderPlace, admits, clears_first, links, leaves_admitted, leaves_refused, files, clears_again, leaves_unpublished, gives_back, shuts, marks, moves, places, commits, leaves_published, ViewerPlace, looks, leaves_looked, reads, returns, leaves_returned, Actor, loader, viewer, World, is_free, at_loader}
use Rattle.sim_world.proofs.Members.{in_filter, in_right}
use Rattle.sim_world.proofs.ProgressLaws.{admission_enters_nothing, journal_goes_on}

-- ---- states

-- whatever leaf stands at the list is open
abbrev IsOpen : State → ℕ → Type 0
IsOpen s l = (a : Leaf) → IsAt s.owner.book.leaves l a → a.stage ≡ Open

-- lists that are open stay so, and the owner keeps the items that it knows in them
record AreKept (s t : State) : Type 0 where
  stays : (l : ℕ) → IsOpen s l → IsOpen t l
  items : (l c k x : ℕ) → IsOpen s l → IsIn s.owner.facts (Item l c k x) → IsIn t.owner.facts (Item l c k x)

all_kept : (s t : State) → t.owner ≡ s.owner → AreKept s t
all_kept s t e = record {
  stays = λ l is a at. is a (subst (λ (o : Owner). IsAt o.book.leaves l a) e at);
  items = λ l c k x is p. subst (λ (o : Owner). IsIn o.facts (Item l c k x)) (sym e) p;
}

kept_twice : (s t u : State) → AreKept s t → AreKept t u → AreKept s u
kept_twice s t u first second = record {
  stays = λ l is. second.stays l (first.stays l is);
  items = λ l c k x is p. second.items l c k x (first.stays l is) (first.items l c k x is p);
}

-- a list changes that is not open
set_kept : (s t : State) (l : ℕ) (e : Leaf) → (IsOpen s l → ⊥) → t.owner.book.leaves ≡ set s.owner.book.leaves l e
    → ((h c k x : ℕ) → h ≢ l → IsIn s.owner.facts (Item h c k x) → IsIn t.owner.facts (Item h c k x)) → AreKept s t
set_kept s t l e shut leaves facts = record {
  stays = λ h is a at. at_set s.owner.book.leaves l h e a _ (subst (λ (es : List Leaf). IsAt es h a) leaves at)
      (λ same z. absurd (other h is same)) (λ ne was. is a was);
  items = λ h c k x is p. facts h c k x (other h is) p;
} where
  other : (h : ℕ) → IsOpen s h → h ≢ l
  other h is same = shut (subst (IsOpen s) same is)

-- ---- clears

-- a leaf that something was done with stands in its list
stands : (es : List Leaf) (l : ℕ) → ((slice_index_or es l opening_leaf).stage ≡ Open → ⊥) → IsAt es l (slice_index_or es l opening_leaf)
stands [] l shut = absurd (shut refl)
stands (e ∷ es) zero shut = refl
stands (e ∷ es) (suc l) shut = stands es l shut

not_open : (s : State) (l : ℕ) → ((leaf_in s l).stage ≡ Open → ⊥) → IsOpen s l → ⊥
not_open s l shut is = shut (is (leaf_in s l) (stands s.owner.book.leaves l shut))

-- where the last word is cleared
ended_kept : (b : Bool) (s t : State) (l : ℕ) → (IsOpen t l → ⊥) → AreKept s t → AreKept s (ended_if b t l)
ended_kept false s t l shut kept = kept
ended_kept true s t l shut kept = kept_twice s t (ended_if true t l) kept
    (set_kept t (ended_if true t l) l (without_chains (leaf_in t l)) shut refl (λ h c k x ne p. p))

-- the list has another stage now
still_shut : (s t : State) (l : ℕ) (e : Leaf) → ((leaf_in s l).stage ≡ Open → ⊥) → (e.stage ≡ Open → ⊥) → t.owner.book.leaves ≡ set s.owner.book.leaves l e
    → IsOpen t l → ⊥
still_shut s t l e was shut leaves is =
    shut (is e (subst (λ (es : List Leaf). IsAt es l e) (sym leaves) (at_set_same s.owner.book.leaves l (leaf_in s l) e (stands s.owner.book.leaves l was))))

-- after the first word, and after a later one
abbrev begun : State → ℕ → State
begun s l = state (put_link s.words l OfList 0) (after_first_clear s.owner l (leaf_in s l)) s.guests

abbrev wiped : State → Words → ℕ → ℕ → ℕ → State
wiped s w l p n = state w (with_leaf s.owner l (with_stage (leaf_in s l) (Cleared p (suc n)))) s.guests

begun_kept : (s : State) (l p f m : ℕ) (b : Bool) → (leaf_in s l).stage ≡ Swept p f m → AreKept s (ended_if b (begun s l) l)
begun_kept s l p f m b e =
    ended_kept b s (begun s l) l (still_shut s (begun s l) l cleared was (λ is. absurd (cc)) refl)
    (set_kept s (begun s l) l cleared (not_open s l was) refl (λ h c k x ne q.
    let differs : (h == l) ≡ false = grind (arith, nat_tests) in
    in_filter (is_kept l) s.owner.facts (Item h c k x) q (ap not differs))) where
      cleared : Leaf
      cleared = with_stage (leaf_in s l) (Cleared s.owner.book.cleared 1)

      was : (leaf_in s l).stage ≡ Open → ⊥
      was is = let clash : Swept p f m ≡ Open = sym e ∙ is in absurd (cc)

wiped_kept : (s : State) (w : Words) (l p n : ℕ) (b : Bool) → (leaf_in s l).stage ≡ Cleared p n → AreKept s (ended_if b (wiped s w l p n) l)
wiped_kept s w l p n b e =
    ended_kept b s (wiped s w l p n) l (still_shut s (wiped s w l p n) l more was (λ is. absurd (cc)) refl)
    (set_kept s (wiped s w l p n) l more (not_open s l was) refl (λ h c k x ne q. q)) where
      more : Leaf
      more = with_stage (leaf_in s l) (Cleared p (suc n))

      was : (leaf_in s l).stage ≡ Open → ⊥
      was is = let clash : Cleared p n ≡ Open = sym e ∙ is in absurd (cc)

clear_kept : (s : State) → AreKept s (word_cleared s)
clear_kept s = by (next_to_clear s) (leaf_in s (next_to_clear s)).stage refl where
  by : (l : ℕ) (t : Stage) → (leaf_in s l).stage ≡ t → AreKept s (cleared_by s l t)
  by l Open e = all_kept s s refl
  by l (Swept p f m) e = begun_kept s l p f m (chunk_count (leaf_in s l) == 0) e
  by l (Cleared p n) e =
      let a : Leaf = leaf_in s l in
      let c : ℕ = slice_index (a.claimed ++ a.owned) ((n - 1) / 257) in
      let k : ℕ = (n - 1) % 257 in
      wiped_kept s (cond (k == 256) (put_link s.words l (OfChunk c) 0) (put_slot s.words c k blank)) l p n (n == 257 * chunk_count a) e

-- ---- chunks join chains

-- a list changes, and keeps its stage
same_stage : (s t : State) (l : ℕ) (e : Leaf) → e.stage ≡ (leaf_in s l).stage → t.owner.book.leaves ≡ set s.owner.book.leaves l e
    → ((f : Fact) → IsIn s.owner.facts f → IsIn t.owner.facts f) → AreKept s t
same_stage s t l e stage leaves facts = record {
  stays = λ h is a at. at_set s.owner.book.leaves l h e a _ (subst (λ (es : List Leaf). IsAt es h a) leaves at)
      (λ same z. ap (λ (y : Leaf). y.stage) (sym z) ∙ (stage ∙ opens h same is)) (λ ne was. is a was);
  items = λ h c k x is p. facts (Item h c k x) p;
} where
  opens : (h : ℕ) → h ≡ l → IsOpen s h → (leaf_in s l).stage ≡ Open
  opens h same is = by (leaf_in s l).stage refl where
    by : (t : Stage) → (leaf_in s l).stage ≡ t → (leaf_in s l).stage ≡ Open
    by Open q = q
    by (Swept p f m) q = absurd (not_open s l (λ r. let clash : Swept p f m ≡ Open = sym q ∙ r in absurd (cc)) (subst (IsOpen s) same is))
    by (Cleared p n) q = absurd (not_open s l (λ r. let clash : Cleared p n ≡ Open = sym q ∙ r in absurd (cc)) (subst (IsOpen s) same is))

link_kept : (s : State) (l c : ℕ) → AreKept s (chunk_linked s l c)
link_kept s l c = same_stage s (chunk_linked s l c) l (with_claimed (leaf_in s l) c) refl refl (λ f p. (suc p.0, p.1))

adopt_kept : (s : State) (l c : ℕ) → AreKept s (chunk_adopted s l c)
adopt_kept s l c = same_stage s (chunk_adopted s l c) l (with_owned (leaf_in s l) c) refl refl (λ f p. p)

times_kept : (chunks n : ℕ) (s : State) (l : ℕ) → AreKept s (adopted_times chunks n s l)
times_kept chunks zero s l = all_kept s s refl
times_kept chunks (suc n) s l =
    let t : State = chunk_adopted s l (least_free chunks s) in
    kept_twice s t (adopted_times chunks n t l) (adopt_kept s l (least_free chunks s)) (times_kept chunks n t l)

adopted_kept : (job : JobValue) (w : World) (rs : List LeafRow) (s : State) → AreKept s (adopted_for job w rs s)
adopted_kept job w [] s = all_kept s s refl
adopted_kept job w (r ∷ rs) s =
    let n : ℕ = chunks_for (length (inside r.cube (admitted_points w.events))) in
    let t : State = adopted_times job.config.chunks n s r.list in
    kept_twice s t (adopted_for job w rs t) (times_kept job.config.chunks n s r.list) (adopted_kept job w rs t)

-- ---- seats

made_kept : (s : State) (gs : List Grant) → AreKept s (seat_made s gs)
made_kept s gs = record {
  stays = λ l is e at. each_granting (λ (k : ℕ) (z : Leaf). IsOpen s k → z.stage ≡ Open) s.owner.book.leaves gs 0 (λ i m a same here all. all a here) l e at is;
  items = λ l c k x is p. p;
}

joined_kept : (s : State) (j : ℕ) → AreKept s (seat_joined s j)
joined_kept s j = record {
  stays = λ l is. is;
  items = λ l c k x is p. in_right (guest_in s j).facts s.owner.facts (Item l c k x) p;
}

-- ---- worlds

current : (job : JobValue) (w w' : World) → IsCurrent job w → AreKept w.lists w'.lists → w'.version ≡ w.version
    → journal w'.events ≡ journal w.events → IsCurrent job w'
current job w w' now kept version es = record {
  version = subst (IsVersion job) (sym version) now.version;
  whole = ap entries version ∙ (now.whole ∙ sym es);
  opened = λ r e here at. kept.stays r.list (λ a was. now.opened r a (subst (λ (v : WorldVersion). IsIn v.leaves r) version here) was) e at;
  covers = λ x p r item here lies.
      let old : IsIn w.version.leaves r = subst (λ (v : WorldVersion). IsIn v.leaves r) version here in
      let s = now.covers x p r (subst (λ (v : WorldVersion). IsIn (published_items v) (x, p)) version item) old lies in
      (s.0, s.1, kept.items r.list s.0 s.1 x (λ a was. now.opened r a old was) s.2, s.3, s.4);
}

module _ (job : JobValue) (w : World) (a : ℕ) (now : IsCurrent job w) where
  -- lists and turn change
  abbrev with_state : State → Option ℕ → World
  with_state s h = record w { lists = s; holder = h }

  decided : (s : State) (h : Option ℕ) (b : BatchValue) (bs : List BatchValue) (c : Option Cause) → AreKept w.lists s
      → IsCurrent job (admission_decided job (with_state s h) a b bs c)
  decided s h b bs (Some c) kept = current job w _ now kept refl refl
  decided s h b bs None kept = current job w _ now kept refl (admission_enters_nothing w.events b.input a b.points)

  admitting : (s : State) (h : Option ℕ) (b : BatchValue) (bs : List BatchValue) → AreKept w.lists s
      → IsCurrent job (before_admission job (with_state s h) a b bs)
  admitting s h b bs kept = by (may_clear s) where
    by : (c : Bool)
        → IsCurrent job
        (cond c (at_loader (with_state s h) a (b ∷ bs) clears_first) (admission_decided job (with_state s h) a b bs (admission_cause job (with_state s h) a b)))
    by true = current job w _ now kept refl refl
    by false = decided s h b bs (admission_cause job (with_state s h) a b) kept

  published : (s : State) (h : Option ℕ) (b : BatchValue) (bs : List BatchValue) (f : Filing) (c : Option Cause) → AreKept w.lists s
      → IsCurrent job (publication_decided job (with_state s h) a b bs f c)
  published s h b bs f (Some c) kept = current job w _ now kept refl refl
  published s h b bs f None kept = current job w _ now
      (kept_twice w.lists s (adopted_for job (with_state s h) (new_rows job (with_state s h) b) s) kept
      (adopted_kept job (with_state s h) (new_rows job (with_state s h) b) s)) refl refl

  publishing : (s : State) (h : Option ℕ) (b : BatchValue) (bs : List BatchValue) (f : Filing) → AreKept w.lists s
      → IsCurrent job (before_publication job (with_state s h) a b bs f)
  publishing s h b bs f kept = by (may_clear s) where
    by : (c : Bool)
        → IsCurrent job
        (cond c (at_loader (with_state s h) a (b ∷ bs) (clears_again f))
        (publication_decided job (with_state s h) a b bs f (publication_cause job (with_state s h) a b)))
    by true = current job w _ now kept refl refl
    by false = published s h b bs f (publication_cause job (with_state s h) a b) kept

  same : (w' : World) → w'.lists.owner ≡ w.lists.owner → w'.version ≡ w.version → journal w'.events ≡ journal w.events → IsCurrent job w'
  same w' owner version es = current job w w' now (all_kept w.lists w'.lists owner) version es

  chosen : (b : Bool) (x y : World) → IsCurrent job x → IsCurrent job y → IsCurrent job (cond b x y)
  chosen true x y p q = p
  chosen false x y p q = q

  filed : (c : Bool) (j l d k x : ℕ) → (filed_if c w.lists j l d k x).owner ≡ w.lists.owner
  filed true j l d k x = refl
  filed false j l d k x = refl

  claimed : (bs : List BatchValue) (f : Filing) (x l : ℕ) (ts : List Task) (i : ℕ) (c : Bool) → IsCurrent job (claimed_step c w a bs f x l ts i)
  claimed bs f x l ts i true =
      let c : ℕ = slice_index (walk_of f.walks l) (i / 256) in
      same _ (filed (is_blank (w.lists.words.slot c (i % 256))) f.seat l c (i % 256) x) refl refl
  claimed bs f x l ts i false = same _ refl refl refl

  tasked : (bs : List BatchValue) (f : Filing) (x l : ℕ) (ts : List Task) (c : Unfiled) → IsCurrent job (task_step w a bs f x l ts c)
  tasked bs f x l ts Nothing = same _ refl refl refl
  tasked bs f x l ts (Place h i) = claimed bs f x l ts i (nat_lt (i / 256) (length (walk_of f.walks l)))

  filing : (b : BatchValue) (bs : List BatchValue) (f : Filing) (ts : List Task) → IsCurrent job (file_step job w a b bs f ts)
  filing b bs f [] = chosen (is_free w) _ _ (publishing w.lists (Some a) b bs f (all_kept w.lists w.lists refl)) now
  filing b bs f (t ∷ ts) = tasked (b ∷ bs) f t.item t.list ts (guest_in w.lists f.seat).claim

  loading : (b : BatchValue) (bs : List BatchValue) (place : LoaderPlace) → is_sweeping place ≡ false → IsCurrent job (loader_step job w a b bs place)
  loading b bs admits e = chosen (is_free w) _ _ (admitting w.lists (Some a) b bs (all_kept w.lists w.lists refl)) now
  loading b bs clears_first e = admitting (word_cleared w.lists) w.holder b bs (clear_kept w.lists)
  loading b bs (links []) e = now
  loading b bs (links (l ∷ ls)) e = current job w _ now (link_kept w.lists l _) refl refl
  loading b bs leaves_admitted e = current job w _ now (made_kept w.lists _) refl refl
  loading b bs leaves_refused e = same _ refl refl refl
  loading b bs (files f) e = filing b bs f f.todo
  loading b bs (clears_again f) e = publishing (word_cleared w.lists) w.holder b bs f (clear_kept w.lists)
  loading b bs (leaves_unpublished f) e = same _ refl refl refl
  loading b bs (gives_back f) e = chosen (is_free w) _ _ (current job w _ now (joined_kept w.lists f.seat) refl refl) now
  loading b bs (shuts f ls) e = absurd (cc)
  loading b bs (marks f l found ls) e = absurd (cc)
  loading b bs (moves f xs ls) e = absurd (cc)
  loading b bs (places f xs) e = absurd (cc)
  loading b bs (commits f) e = absurd (cc)
  loading b bs leaves_published e = same _ refl refl refl

  going_on : (h : Option ℕ) (n : ℕ) (v : Look) (ds : List Slot) → IsCurrent job (goes_on job (record w { holder = h }) a n v ds)
  going_on h n v [] = same _ refl refl refl
  going_on h n v (d ∷ ds) = same _ refl refl refl

  reading : (n : ℕ) (v : Look) (ds : List Slot) → IsCurrent job (read_step job w a n v ds)
  reading n v [] = now
  reading n v (d ∷ ds) = going_on w.holder n _ ds

  viewing : (n : ℕ) (place : ViewerPlace) → IsCurrent job (viewer_step job w a n place)
  viewing n looks =
      chosen (is_free w) _ _ (current job w _ now (made_kept w.lists []) refl (journal_goes_on w.events ((Looked, a) ∷ []) ∙ append-nil (journal w.events))) now
  viewing n (leaves_looked v) = going_on None n v v.todo
  viewing n (reads v) = reading n v v.todo
  viewing n (returns v) = chosen (is_free w) _ _ (current job w _ now (joined_kept w.lists v.seat) refl refl) now
  viewing n leaves_returned = same _ refl refl refl

  acting : (x : Option Actor) → is_sweeper x ≡ false → IsCurrent job (actor_step job w a x)
  acting None e = now
  acting (Some (loader [] place)) e = now
  acting (Some (loader (b ∷ bs) place)) e = loading b bs place e
  acting (Some (viewer n place)) e = chosen (nat_lt job.frames n) w (viewer_step job w a n place) now (viewing n place)

  pub stays_current : is_sweeper (slice_get w.actors a) ≡ false → IsCurrent job (step job w a)
  unfolding step
  stays_current e = acting (slice_get w.actors a) e
