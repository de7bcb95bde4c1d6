-- Whatever actor makes a step, frames that are out go on as they should, and finished frames show prefixes of the journal.
use Rattle.std.proofs.Common.{◌≡◌, ℕ, suc, ◌+◌, ◌-◌, ◌<◌, ◌≤◌, ◌≢◌, ◌⊎◌, inl, inr, ⊎_elim, Bool, true, false, cond, List, [], ◌∷◌, ◌++◌, map, length, take, set, refl, sym, ap, ◌∙◌, subst, arith, append-nil, append_assoc}
use Rattle.std.specs.Prelude.{count_by, Some, None, Option, slice_get, nat_lt, option_to_list, flat_map}
use Rattle.std.proofs.lemmas.Option.{none-some, same_Some}
use Rattle.std.proofs.lemmas.List.{length-append, length-map, length-set, map-append, take-append-le}
use Rattle.std.proofs.lemmas.List.Elements.{filter_map-append}
use Rattle.std.proofs.Math.Seq.{take-append_seam}
use Rattle.cube_math.specs.Points.{PointValue}
use Rattle.cube_math.specs.Batches.{BatchValue}
use Rattle.octree_model.specs.Octree.{octree}
use Rattle.picture_model.specs.Items.{items, IsSameItems}
use Rattle.list_machine.specs.Words.{item_in}
use Rattle.list_machine.specs.Facts.{IsAt}
use Rattle.list_machine.specs.Steps.{newcomer, nobody}
use Rattle.list_machine.specs.declared.views.Guest.{Guest}
use Rattle.list_machine.proofs.Lists.{at_set, at_more, at_left, at_set_other}
use Rattle.sim_world.proofs.LookLaws.{IsLooking, reads_keep, others_keep}
use Rattle.sim_world.proofs.LookLaws.{looks as looks_well}
use Rattle.sim_world.proofs.FrameLaws.{finished_items}
use Rattle.sim_world.proofs.SeatLaws.{actor_stays, pick, viewer_seat, seat_of}
use Rattle.sim_world.proofs.OutcomeLaws.{SeatAfter, no_seat, same_seat, new_seat, Outcome, nothing, loads, loading, length_more}
use Rattle.record_model.specs.declared.event.Event.TheVariants.{Look as Looked}
use Rattle.sim_world.specs.Worlds.{Look}
use Rattle.list_machine.specs.Moves.{seat_joined, seat_made}
use Rattle.record_model.specs.Records.{JournalEntry, Record, entry_of, flat, journal}
use Rattle.sim_world.specs.Frames.{goes_on, frame_items, look_now, read_step}
use Rattle.sim_world.specs.Jobs.{JobValue}
use Rattle.sim_world.specs.Steps.{actor_step, run_from, step, viewer_step}
use Rattle.sim_world.specs.Stores.{IsVersion, IsCurrent, IsStored}
use Rattle.sim_world.specs.Versions.{entries, PublishedBatch, WorldVersion, numbered, points_in}
use Rattle.sim_world.specs.Views.{IsShown}
use Rattle.sim_world.specs.Worlds.{Actor, LoaderPlace, Slot, ViewValue, ViewerPlace, World, at_viewer, entered, is_free, leaves_looked, leaves_returned, loader, looks, noted, reads, returns, viewer, with_lists}

-- ---- versions and the journal

points_numbered : (n : ℕ) (ps : List PointValue) → map (λ (x : ℕ × PointValue). x.1) (numbered n ps) ≡ ps
points_numbered n [] = refl
points_numbered n (p ∷ ps) = ap (λ (qs : List PointValue). p ∷ qs) (points_numbered (suc n) ps)

points_of_version : (bs : List PublishedBatch)
    → map (λ (x : ℕ × PointValue). x.1) (flat_map (λ (b : PublishedBatch). numbered b.first b.entry.points) bs) ≡ flat
    (map (λ (b : PublishedBatch). b.entry) bs)
points_of_version [] = refl
points_of_version (b ∷ bs) =
    map-append (λ (x : ℕ × PointValue). x.1) (numbered b.first b.entry.points) (flat_map (λ (c : PublishedBatch). numbered c.first c.entry.points) bs)
    ∙ ap (λ (ps : List PointValue). ps ++ map (λ (x : ℕ × PointValue). x.1) (flat_map (λ (c : PublishedBatch). numbered c.first c.entry.points) bs))
    (points_numbered b.first b.entry.points)
    ∙ ap (λ (ps : List PointValue). b.entry.points ++ ps) (points_of_version bs)

-- a version of the journal as it was
pub record IsOld (job : JobValue) (events : Record) (v : WorldVersion) : Type 0 where
  pub is : IsVersion job v
  pub rest : List JournalEntry
  pub prefix : entries v ++ rest ≡ journal events

journal_more : (events rest : Record) → journal (events ++ rest) ≡ journal events ++ journal rest
journal_more events rest = filter_map-append entry_of events rest

still_old : (job : JobValue) (events rest : Record) (v : WorldVersion) → IsOld job events v → IsOld job (events ++ rest) v
still_old job events rest v old = record {
  is = old.is;
  rest = old.rest ++ journal rest;
  prefix =
      sym (append_assoc (entries v) old.rest (journal rest))
      ∙ (ap (λ (es : List JournalEntry). es ++ journal rest) old.prefix ∙ sym (journal_more events rest));
}

-- the points of a version are those of as many entries of the journal
points_are_flat : (job : JobValue) (events : Record) (v : WorldVersion) → IsOld job events v → points_in v ≡ flat (take (length v.batches) (journal events))
points_are_flat job events v old =
    let n : length (entries v) ≡ length v.batches = length-map v.batches (λ (b : PublishedBatch). b.entry) in
    points_of_version v.batches
    ∙ ap flat (sym (take-append_seam (entries v) old.rest) ∙ (ap (λ k. take k (entries v ++ old.rest)) n ∙ ap (take (length v.batches)) old.prefix))

within_journal : (job : JobValue) (events : Record) (v : WorldVersion) → IsOld job events v → length v.batches ≤ length (journal events)
within_journal job events v old =
    let n : length (entries v) ≡ length v.batches = length-map v.batches (λ (b : PublishedBatch). b.entry) in
    let m = length-append (entries v) old.rest in
    let e = ap length old.prefix in
    omega arith

still_shown : (job : JobValue) (w w' : World) (rest : Record) (x : ViewValue) → w.events ++ rest ≡ w'.events → IsShown job w x → IsShown job w' x
still_shown job w w' rest x more shown =
    let js : journal w.events ++ journal rest ≡ journal w'.events = sym (journal_more w.events rest) ∙ ap journal more in
    let n = length-append (journal w.events) (journal rest) in
    let m = ap length js in
    let le = shown.within in
    let same : flat (take x.length (journal w.events)) ≡ flat (take x.length (journal w'.events)) =
    ap flat (sym (take-append-le x.length (journal w.events) (journal rest) le) ∙ ap (take x.length) js) in
    record {
      within = omega arith;
      items =
          subst (λ (ps : List PointValue). IsSameItems x.items (items job.camera (octree job.config.leaf job.config.cube ps) job.config.cube)) same shown.items;
    }

-- the current version is one
now_old : (job : JobValue) (w : World) → IsCurrent job w → IsOld job w.events w.version
now_old job w now = record { is = now.version; rest = []; prefix = append-nil (entries w.version) ∙ now.whole }

-- ---- what holds between steps

-- the frame that is out and may still find items
abbrev pub look_in : ViewerPlace → Option Look
look_in looks = None
look_in (leaves_looked v) = Some v
look_in (reads v) = Some v
look_in (returns v) = None
look_in leaves_returned = None

-- frames that are out are looking, finished ones show prefixes, and each seat is one actor's
pub record AreViewed (job : JobValue) (w : World) : Type 0 where
  pub looking : (b n : ℕ) (place : ViewerPlace) (v : Look) → IsAt w.actors b (viewer n place) → look_in place ≡ Some v
      → IsLooking job w.lists.guests v × IsOld job w.events v.version
  pub shown : (i : ℕ) (x : ViewValue) → IsAt w.views i x → IsShown job w x
  pub apart : (b c : ℕ) (x y : Actor) (j : ℕ) → IsAt w.actors b x → IsAt w.actors c y → seat_of x ≡ Some j → seat_of y ≡ Some j → b ≡ c
  pub below : (b : ℕ) (x : Actor) (j : ℕ) → IsAt w.actors b x → seat_of x ≡ Some j → j < length w.lists.guests

-- what a step does, with the actor y at a
pub record Change (job : JobValue) (w : World) (a : ℕ) (y : Actor) (w' : World) : Type 0 where
  pub actor : Actor
  pub actors : w'.actors ≡ set w.actors a actor
  pub seat : SeatAfter (seat_of y) (seat_of actor) (length w.lists.guests) (length w'.lists.guests)
  pub rest : Record
  pub events : w.events ++ rest ≡ w'.events
  pub stays : (j : ℕ) (v : Guest) → ((k : ℕ) → seat_of y ≡ Some k → j ≢ k) → IsAt w.lists.guests j v → IsAt w'.lists.guests j v
  pub mine : (n : ℕ) (place : ViewerPlace) (v : Look) → actor ≡ viewer n place → look_in place ≡ Some v
      → IsLooking job w'.lists.guests v × IsOld job w'.events v.version
  pub views : (i : ℕ) (x : ViewValue) → IsAt w'.views i x → IsAt w.views i x ⊎ IsShown job w' x

seat_in : (place : ViewerPlace) (v : Look) → look_in place ≡ Some v → viewer_seat place ≡ Some v.seat
seat_in looks v e = absurd (cc)
seat_in (leaves_looked v) u e = ap (λ (x : Look). Some x.seat) (same_Some v u e)
seat_in (reads v) u e = ap (λ (x : Look). Some x.seat) (same_Some v u e)
seat_in (returns v) u e = absurd (cc)
seat_in leaves_returned v e = absurd (cc)

module _ (job : JobValue) (w w' : World) (a : ℕ) (y : Actor) (at : IsAt w.actors a y) (was : AreViewed job w) (did : Change job w a y w') where
  -- an actor that is not a has the place that it had
  old_actor : (b : ℕ) (x : Actor) (F : Type 0) → IsAt w'.actors b x → (b ≡ a → did.actor ≡ x → F) → (b ≢ a → IsAt w.actors b x → F) → F
  old_actor b x F p mine other = at_set w.actors a b did.actor x F (subst (λ (xs : List Actor). IsAt xs b x) did.actors p) mine other

  looking : (b n : ℕ) (place : ViewerPlace) (v : Look) → IsAt w'.actors b (viewer n place) → look_in place ≡ Some v
      → IsLooking job w'.lists.guests v × IsOld job w'.events v.version
  looking b n place v p e = old_actor b (viewer n place) _ p (λ same is. did.mine n place v is e)
      (λ ne q.
      let old = was.looking b n place v q e in
      let still =
      did.stays v.seat old.0.guest
      (λ k is clash. ne (was.apart b a (viewer n place) y v.seat q at (seat_in place v e) (is ∙ ap Some (sym clash)))) old.0.here in (
        others_keep job w.lists.guests w'.lists.guests v old.0 still,
        subst (λ (es : Record). IsOld job es v.version) did.events
            (still_old job w.events did.rest v.version old.1),
      ))

  shown : (i : ℕ) (x : ViewValue) → IsAt w'.views i x → IsShown job w' x
  shown i x p = ⊎_elim (λ q. still_shown job w w' did.rest x did.events (was.shown i x q)) (λ s. s) (did.views i x p)

  -- the seat of the actor a is its old one or a new one
  my_seat : (j : ℕ) → seat_of did.actor ≡ Some j → (seat_of y ≡ Some j) ⊎ (length w.lists.guests ≤ j)
  my_seat j e = by did.seat where
    by : SeatAfter (seat_of y) (seat_of did.actor) (length w.lists.guests) (length w'.lists.guests) → (seat_of y ≡ Some j) ⊎ (length w.lists.guests ≤ j)
    by (no_seat is le) = absurd (none-some j (sym is ∙ e))
    by (same_seat is le) = inl (sym is ∙ e)
    by (new_seat is long) = let n : length w.lists.guests ≡ j = same_Some _ j (sym is ∙ e) in inr (omega arith)

  longer : length w.lists.guests ≤ length w'.lists.guests
  longer = by did.seat where
    by : SeatAfter (seat_of y) (seat_of did.actor) (length w.lists.guests) (length w'.lists.guests) → length w.lists.guests ≤ length w'.lists.guests
    by (no_seat is le) = le
    by (same_seat is le) = le
    by (new_seat is long) = omega arith

  below : (b : ℕ) (x : Actor) (j : ℕ) → IsAt w'.actors b x → seat_of x ≡ Some j → j < length w'.lists.guests
  below b x j p e =
      old_actor b x _ p (λ same is. by did.seat (ap seat_of is ∙ e)) (λ ne q. let low = was.below b x j q e in let le = longer in omega arith) where
        by : SeatAfter (seat_of y) (seat_of did.actor) (length w.lists.guests) (length w'.lists.guests) → seat_of did.actor ≡ Some j
            → j < length w'.lists.guests
        by (no_seat is le) e = absurd (none-some j (sym is ∙ e))
        by (same_seat is le) e = let low = was.below a y j at (sym is ∙ e) in omega arith
        by (new_seat is long) e = let n : length w.lists.guests ≡ j = same_Some _ j (sym is ∙ e) in omega arith

  -- nobody else has it
  not_mine : (b j : ℕ) (x : Actor) → b ≢ a → IsAt w.actors b x → seat_of x ≡ Some j → seat_of did.actor ≡ Some j → ⊥
  not_mine b j x ne p e mine =
      ⊎_elim (λ old. ne (was.apart b a x y j p at e old)) (λ new. let low = was.below b x j p e in absurd (omega arith)) (my_seat j mine)

  apart : (b c : ℕ) (x z : Actor) (j : ℕ) → IsAt w'.actors b x → IsAt w'.actors c z → seat_of x ≡ Some j → seat_of z ≡ Some j → b ≡ c
  apart b c x z j p q e e' = old_actor b x _ p
      (λ same is. old_actor c z _ q (λ same' is'. same ∙ sym same') (λ ne q'. absurd (not_mine c j z ne q' e' (ap seat_of is ∙ e))))
      (λ ne p'. old_actor c z _ q (λ same' is'. absurd (not_mine b j x ne p' e (ap seat_of is' ∙ e'))) (λ ne' q'. was.apart b c x z j p' q' e e'))

  pub viewed : AreViewed job w'
  viewed = record { looking = looking; shown = shown; apart = apart; below = below }

-- a frame's version, at the Enter in which it takes it, is that of the whole journal
pub look_length : (job : JobValue) (w : World) → IsCurrent job w → length (look_now job w).version.batches ≡ length (journal w.events)
look_length job w now = sym (length-map w.version.batches (λ (b : PublishedBatch). b.entry)) ∙ ap length now.whole

-- ---- steps

pub same_place : (n m : ℕ) (p q : ViewerPlace) → viewer n p ≡ viewer m q → p ≡ q
same_place n m p q e = cc

no_viewer : (bs : List BatchValue) (p : LoaderPlace) (n : ℕ) (q : ViewerPlace) → loader bs p ≡ viewer n q → ⊥
no_viewer bs p n q e = absurd (cc)

-- a finished frame shows its version
shows : (job : JobValue) (w : World) (k n : ℕ) (v : Look) → IsLooking job w.lists.guests v → IsOld job w.events v.version → v.todo ≡ []
    → IsShown job w record { viewer = k; frame = n; length = length v.version.batches; items = frame_items job v }
shows job w k n v look old done =
    let e = finished_items job w.lists.guests v old.is look done in
    record {
      within = within_journal job w.events v.version old;
      items =
          subst (λ (ps : List PointValue). IsSameItems (frame_items job v)
          (items job.camera (octree job.config.leaf job.config.cube ps) job.config.cube)) (points_are_flat job w.events v.version old)
          (λ test. ap (count_by test) e);
    }

module _ (job : JobValue) (w : World) (a : ℕ) (stored : IsStored job w) (was : AreViewed job w) where
  -- each seat but the actor's stays
  abbrev Stays : Actor → World → Type 0
  Stays y w' = (j : ℕ) (v : Guest) → ((k : ℕ) → seat_of y ≡ Some k → j ≢ k) → IsAt w.lists.guests j v → IsAt w'.lists.guests j v

  loaded : (y : Actor) (w' : World) → IsAt w.actors a y → Stays y w' → Outcome w a (seat_of y) w' → AreViewed job w'
  loaded y w' at stays (nothing e) = subst (AreViewed job) (sym e) was
  loaded y w' at stays (loads bs place actors seat rest events quiet views) = viewed job w w' a y at was record {
    actor = loader bs place;
    actors = actors;
    seat = seat;
    rest = rest;
    events = events;
    stays = stays;
    mine = λ n q v e is. absurd (no_viewer bs place n q e);
    views = λ i x p. inl (subst (λ (xs : List ViewValue). IsAt xs i x) views p);
  }

  -- a frame goes on, with what is left to be read
  going_on : (h : Option ℕ) (n : ℕ) (place : ViewerPlace) (v : Look) (ds : List Slot) → IsAt w.actors a (viewer n place) → viewer_seat place ≡ Some v.seat
      → IsLooking job w.lists.guests v → IsOld job w.events v.version → v.todo ≡ ds → AreViewed job (goes_on job (record w { holder = h }) a n v ds)
  going_on h n place v [] at seat look old done = viewed job w (goes_on job (record w { holder = h }) a n v []) a (viewer n place) at was record {
    actor = viewer n (returns v);
    actors = refl;
    seat = same_seat (sym seat) (omega arith);
    rest = [];
    events = append-nil w.events;
    stays = λ j g ne p. p;
    mine = λ m q u e is. absurd (none-some u (ap look_in (same_place n m (returns v) q e) ∙ is));
    views = λ i x p. at_more w.views _ i x _ p (λ q. inl q) (λ last is. inr (subst (IsShown job (goes_on job (record w { holder = h }) a n v [])) is
        (shows job (goes_on job (record w { holder = h }) a n v []) (a - job.loaders) n v look old done)));
  }
  going_on h n place v (d ∷ ds) at seat look old next = viewed job w (goes_on job (record w { holder = h }) a n v (d ∷ ds)) a (viewer n place) at was record {
    actor = viewer n (reads v);
    actors = refl;
    seat = same_seat (sym seat) (omega arith);
    rest = [];
    events = append-nil w.events;
    stays = λ j g ne p. p;
    mine = λ m q u e is.
        let same : v ≡ u = same_Some v u (ap look_in (same_place n m (reads v) q e) ∙ is) in
        (subst (IsLooking job w.lists.guests) same look, subst (λ (z : Look). IsOld job w.events z.version) same old);
    views = λ i x p. inl p;
  }

  -- the next slot is read
  reading : (n : ℕ) (v : Look) (ds : List Slot) → IsAt w.actors a (viewer n (reads v)) → IsLooking job w.lists.guests v
      → IsOld job w.events v.version → v.todo ≡ ds → AreViewed job (read_step job w a n v ds)
  reading n v [] at look old next = was
  reading n v (d ∷ ds) at look old next =
      going_on w.holder n (reads v) (record v { todo = ds; found = v.found ++ option_to_list (item_in (w.lists.words.slot d.chunk d.place)) }) ds at refl
      (reads_keep job w.lists v d ds stored.sound look next) old refl

  abbrev after_look : ℕ → World
  after_look n = at_viewer (with_lists (noted (entered w a) Looked a) (seat_made w.lists [])) a n (leaves_looked (look_now job w))

  abbrev after_return : ℕ → Look → World
  after_return n v = at_viewer (with_lists (entered w a) (seat_joined w.lists v.seat)) a n leaves_returned

  looking_now : (n : ℕ) → IsAt w.actors a (viewer n looks) → IsCurrent job w → AreViewed job (after_look n)
  looking_now n at now = viewed job w (after_look n) a (viewer n looks) at was record {
    actor = viewer n (leaves_looked (look_now job w));
    actors = refl;
    seat = new_seat refl (length_more w.lists.guests (newcomer w.lists.owner []));
    rest = (Looked, a) ∷ [];
    events = refl;
    stays = λ j g ne p. at_left w.lists.guests (newcomer w.lists.owner [] ∷ []) j g p;
    mine = λ m q u e is.
        let same : look_now job w ≡ u = same_Some (look_now job w) u (ap look_in (same_place n m (leaves_looked (look_now job w)) q e) ∙ is) in (
          subst (IsLooking job (after_look n).lists.guests) same (looks_well job w stored.sound now.covers now.opened),
          subst (λ (z : Look). IsOld job (after_look n).events z.version) same (still_old job w.events ((Looked, a) ∷ []) w.version (now_old job w now)),
        );
    views = λ i x p. inl p;
  }

  viewing : (n : ℕ) (place : ViewerPlace) → IsAt w.actors a (viewer n place) → AreViewed job (viewer_step job w a n place)
  viewing n looks at = by (is_free w) refl where
    by : (b : Bool) → is_free w ≡ b → AreViewed job (cond b (after_look n) w)
    by true e = looking_now n at (stored.current e)
    by false e = was
  viewing n (leaves_looked v) at = let t = was.looking a n (leaves_looked v) v at refl in going_on None n (leaves_looked v) v v.todo at refl t.0 t.1 refl
  viewing n (reads v) at = let t = was.looking a n (reads v) v at refl in reading n v v.todo at t.0 t.1 refl
  viewing n (returns v) at = pick (AreViewed job) (is_free w) (after_return n v) w (viewed job w (after_return n v) a (viewer n (returns v)) at was record {
    actor = viewer n leaves_returned;
    actors = refl;
    seat = no_seat refl (let e = length-set w.lists.guests v.seat nobody in omega arith);
    rest = [];
    events = append-nil w.events;
    stays = λ j g ne p. at_set_other w.lists.guests v.seat j nobody g (ne v.seat refl) p;
    mine = λ m q u e is. absurd (none-some u (ap look_in (same_place n m leaves_returned q e) ∙ is));
    views = λ i x p. inl p;
  }) was
  viewing n leaves_returned at = viewed job w (viewer_step job w a n leaves_returned) a (viewer n leaves_returned) at was record {
    actor = viewer (n + 1) looks;
    actors = refl;
    seat = no_seat refl (omega arith);
    rest = [];
    events = append-nil w.events;
    stays = λ j g ne p. p;
    mine = λ m q u e is. absurd (none-some u (ap look_in (same_place (n + 1) m looks q e) ∙ is));
    views = λ i x p. inl p;
  }

  acting : (x : Option Actor) → slice_get w.actors a ≡ x → AreViewed job (actor_step job w a x)
  acting None e = was
  acting (Some (loader [] place)) e = was
  acting (Some (loader (b ∷ bs) place)) e = loaded (loader (b ∷ bs) place) (actor_step job w a (Some (loader (b ∷ bs) place))) e
      (λ j v ne. actor_stays job a j v w (Some (loader (b ∷ bs) place)) (λ y k is seat. ne k (ap seat_of (same_Some (loader (b ∷ bs) place) y is) ∙ seat)))
      (loading job w a b bs place)
  acting (Some (viewer n place)) e = pick (AreViewed job) (nat_lt job.frames n) w (viewer_step job w a n place) was (viewing n place e)

-- a step of any actor
pub step_viewed : (job : JobValue) (w : World) (a : ℕ) → IsStored job w → AreViewed job w → AreViewed job (step job w a)
unfolding step
step_viewed job w a stored was = acting job w a stored was (slice_get w.actors a) refl

-- and so a schedule
pub run_viewed : (job : JobValue) (w : World) (schedule : List ℕ) → ((n : ℕ) → IsStored job (run_from job w (take n schedule))) → AreViewed job w
    → AreViewed job (run_from job w schedule)
run_viewed job w [] stored was = was
run_viewed job w (a ∷ schedule) stored was = run_viewed job (step job w a) schedule (λ n. stored (suc n)) (step_viewed job w a (stored 0) was)
