-- When frames take their versions: at the look that has the number of the frame, from the journal as it is then.
use Rattle.std.proofs.Common.{◌≡◌, ◌==◌, ℕ, zero, suc, ◌+◌, ◌-◌, ◌≤◌, ◌≢◌, ◌⊎◌, inl, inr, ⊎_elim, Bool, true, false, cond, List, [], ◌∷◌, ◌++◌, map, length, take, set, refl, sym, ap, ◌∙◌, subst, arith, append-nil, append_assoc}
use Rattle.std.specs.Prelude.{Some, None, Option, slice_get, nat_lt, option_to_list}
use Rattle.std.proofs.lemmas.Option.{none-some, same_Some}
use Rattle.std.proofs.lemmas.Bool.Decides.{nat_tests}
use Rattle.std.proofs.lemmas.List.{length-append, length-map}
use Rattle.std.proofs.lemmas.List.Elements.{filter-append}
use Rattle.list_machine.specs.Words.{item_in}
use Rattle.list_machine.specs.Facts.{IsAt}
use Rattle.list_machine.specs.Moves.{seat_joined, seat_made}
use Rattle.list_machine.proofs.Lists.{at_set, at_more}
use Rattle.octree_model.specs.Numbers.{up_to}
use Rattle.octree_model.proofs.NumberLaws.{length-up_to}
use Rattle.record_model.specs.Records.{Record, journal}
use Rattle.record_model.specs.declared.event.Event.TheVariants.{Look as Looked}
use Rattle.sim_world.specs.Frames.{goes_on, look_now, read_step}
use Rattle.sim_world.specs.Jobs.{JobValue, batches_of}
use Rattle.sim_world.specs.Steps.{actor_step, run_from, step, viewer_step}
use Rattle.sim_world.specs.Stores.{IsCurrent, IsStored}
use Rattle.sim_world.specs.Versions.{WorldVersion}
use Rattle.sim_world.specs.Views.{looks_of, IsLook, IsOfItsLook}
use Rattle.sim_world.specs.Worlds.{Look, Slot, ViewerPlace, looks, leaves_looked, reads, returns, leaves_returned, Actor, loader, viewer, admits, ViewValue, World, opening_world, at_viewer, entered, is_free, noted, with_lists}
use Rattle.sim_world.proofs.Members.{in_map_at}
use Rattle.sim_world.proofs.SeatLaws.{pick, seat_of}
use Rattle.sim_world.proofs.OutcomeLaws.{Outcome, nothing, loads, loading}
use Rattle.sim_world.proofs.ViewerLaws.{look_in, look_length}

-- ---- looks of records

pub looks_more : (a : ℕ) (events rest : Record) → looks_of a (events ++ rest) ≡ looks_of a events + looks_of a rest
looks_more a events rest = ap length (filter-append _ events rest) ∙ length-append _ _

own_look : (a : ℕ) → looks_of a ((Looked, a) ∷ []) ≡ 1
own_look a = let e : (a == a) ≡ true = grind (arith, nat_tests) in rw e refl

other_look : (a b : ℕ) → b ≢ a → looks_of b ((Looked, a) ∷ []) ≡ 0
other_look a b ne = let e : (a == b) ≡ false = grind (arith, nat_tests) in rw e refl

look_stays : (events rest before : Record) (a n : ℕ) → IsLook events a n before → IsLook (events ++ rest) a n before
look_stays events rest before a n look = record {
  behind = look.behind ++ rest;
  is = sym (append_assoc before ((Looked, a) ∷ look.behind) rest) ∙ ap (λ (es : Record). es ++ rest) look.is;
  number = look.number;
}

-- a version was taken at the n-th look of the actor a
pub record IsTaken (events : Record) (a n : ℕ) (v : WorldVersion) : Type 0 where
  pub before : Record
  pub look : IsLook events a n before
  pub whole : length v.batches ≡ length (journal before)

taken_stays : (events rest : Record) (a n : ℕ) (v : WorldVersion) → IsTaken events a n v → IsTaken (events ++ rest) a n v
taken_stays events rest a n v t = record { before = t.before; look = look_stays events rest t.before a n t.look; whole = t.whole }

-- ---- what holds between steps

-- whether a viewer has looked for its frame
abbrev pub looked : ViewerPlace → ℕ
looked looks = 0
looked (leaves_looked v) = 1
looked (reads v) = 1
looked (returns v) = 1
looked leaves_returned = 1

-- a viewer has looked once for each frame
pub record IsTimedViewer (job : JobValue) (events : Record) (b n : ℕ) (place : ViewerPlace) : Type 0 where
  pub beyond : job.loaders ≤ b
  pub number : looks_of b events + 1 ≡ n + looked place
  pub taken : (v : Look) → look_in place ≡ Some v → IsTaken events b n v.version

abbrev pub IsTimed : JobValue → Record → ℕ → Actor → Type 0
IsTimed job events b (loader bs place) = Unit {0}
IsTimed job events b (viewer n place) = IsTimedViewer job events b n place

pub record AreTimed (job : JobValue) (w : World) : Type 0 where
  pub actors : (b : ℕ) (x : Actor) → IsAt w.actors b x → IsTimed job w.events b x
  pub views : (i : ℕ) (x : ViewValue) → IsAt w.views i x → IsOfItsLook job w x

-- what a step of the actor a does
record Timing (job : JobValue) (w : World) (a : ℕ) (w' : World) : Type 0 where
  actor : Actor
  actors : w'.actors ≡ set w.actors a actor
  rest : Record
  events : w.events ++ rest ≡ w'.events
  quiet : (b : ℕ) → b ≢ a → looks_of b rest ≡ 0
  mine : IsTimed job w'.events a actor
  views : (i : ℕ) (x : ViewValue) → IsAt w'.views i x → IsAt w.views i x ⊎ IsOfItsLook job w' x

still_timed : (job : JobValue) (events rest : Record) (b : ℕ) (x : Actor) → looks_of b rest ≡ 0 → IsTimed job events b x → IsTimed job (events ++ rest) b x
still_timed job events rest b (loader bs place) quiet t = t
still_timed job events rest b (viewer n place) quiet t =
    let e = looks_more b events rest in
    let was = t.number in
    record {
      beyond = t.beyond;
      number = omega arith;
      taken = λ v is. taken_stays events rest b n v.version (t.taken v is);
    }

view_stays : (job : JobValue) (w w' : World) (rest : Record) (x : ViewValue) → w.events ++ rest ≡ w'.events → IsOfItsLook job w x → IsOfItsLook job w' x
view_stays job w w' rest x more t = record {
  before = t.before;
  look = subst (λ (es : Record). IsLook es (job.loaders + x.viewer) x.frame t.before) more
      (look_stays w.events rest t.before (job.loaders + x.viewer) x.frame t.look);
  seen = t.seen;
}

timed : (job : JobValue) (w w' : World) (a : ℕ) → AreTimed job w → Timing job w a w' → AreTimed job w'
timed job w w' a was did = record {
  actors = λ b x p. at_set w.actors a b did.actor x (IsTimed job w'.events b x) (subst (λ (xs : List Actor). IsAt xs b x) did.actors p)
      (λ same is. subst (λ (z : ℕ). IsTimed job w'.events z x) (sym same) (subst (λ (z : Actor). IsTimed job w'.events a z) is did.mine))
      (λ ne q. subst (λ (es : Record). IsTimed job es b x) did.events (still_timed job w.events did.rest b x (did.quiet b ne) (was.actors b x q)));
  views = λ i x p. ⊎_elim (λ q. view_stays job w w' did.rest x did.events (was.views i x q)) (λ t. t) (did.views i x p);
}

-- ---- steps

module _ (job : JobValue) (w : World) (a : ℕ) (stored : IsStored job w) (was : AreTimed job w) where
  loaded : (seat : Option ℕ) (w' : World) → Outcome w a seat w' → AreTimed job w'
  loaded seat w' (nothing e) = subst (AreTimed job) (sym e) was
  loaded seat w' (loads bs place actors seats rest events quiet views) = timed job w w' a was record {
    actor = loader bs place;
    actors = actors;
    rest = rest;
    events = events;
    quiet = λ b ne. quiet b;
    mine = tt;
    views = λ i x p. inl (subst (λ (xs : List ViewValue). IsAt xs i x) views p);
  }

  -- a frame goes on, with what is left to be read
  going_on : (h : Option ℕ) (n : ℕ) (v : Look) (ds : List Slot) → job.loaders ≤ a → looks_of a w.events + 1 ≡ n + 1 → IsTaken w.events a n v.version
      → AreTimed job (goes_on job (record w { holder = h }) a n v ds)
  going_on h n v [] beyond number taken = timed job w (goes_on job (record w { holder = h }) a n v []) a was record {
    actor = viewer n (returns v);
    actors = refl;
    rest = [];
    events = append-nil w.events;
    quiet = λ b ne. refl;
    mine = record { beyond = beyond; number = number; taken = λ u is. absurd (none-some u is) };
    views =
        λ i x p. at_more w.views _ i x _ p (λ q. inl q) (λ last is. inr (subst (IsOfItsLook job (goes_on job (record w { holder = h }) a n v [])) is record {
          before = taken.before;
          look = let same : a ≡ job.loaders + (a - job.loaders) = omega arith in subst (λ (z : ℕ). IsLook w.events z n taken.before) same taken.look;
          seen = taken.whole;
        }));
  }
  going_on h n v (d ∷ ds) beyond number taken = timed job w (goes_on job (record w { holder = h }) a n v (d ∷ ds)) a was record {
    actor = viewer n (reads v);
    actors = refl;
    rest = [];
    events = append-nil w.events;
    quiet = λ b ne. refl;
    mine = record { beyond = beyond; number = number; taken = λ u is. subst (λ (z : Look). IsTaken w.events a n z.version) (same_Some v u is) taken };
    views = λ i x p. inl p;
  }

  reading : (n : ℕ) (v : Look) (ds : List Slot) → IsTimedViewer job w.events a n (reads v) → AreTimed job (read_step job w a n v ds)
  reading n v [] t = was
  reading n v (d ∷ ds) t =
      going_on w.holder n
      (record v { todo = ds; found = v.found ++ option_to_list (item_in (w.lists.words.slot d.chunk d.place)) }) ds t.beyond t.number (t.taken v refl)

  abbrev after_look : ℕ → World
  after_look n = at_viewer (with_lists (noted (entered w a) Looked a) (seat_made w.lists [])) a n (leaves_looked (look_now job w))

  abbrev after_return : ℕ → Look → World
  after_return n v = at_viewer (with_lists (entered w a) (seat_joined w.lists v.seat)) a n leaves_returned

  looking : (n : ℕ) → IsTimedViewer job w.events a n looks → IsCurrent job w → AreTimed job (after_look n)
  looking n t current =
      let more = looks_more a w.events ((Looked, a) ∷ []) in
      let one = own_look a in
      let first : looks_of a w.events + 1 ≡ n = t.number ∙ omega arith in
      let now : IsTaken (w.events ++ (Looked, a) ∷ []) a n w.version = record {
        before = w.events;
        look = record { behind = []; is = refl; number = first };
        whole = look_length job w current;
      } in
      timed job w (after_look n) a was record {
        actor = viewer n (leaves_looked (look_now job w));
        actors = refl;
        rest = (Looked, a) ∷ [];
        events = refl;
        quiet = λ b ne. other_look a b ne;
        mine = record {
          beyond = t.beyond;
          number = omega arith;
          taken = λ u is. subst (λ (z : Look). IsTaken (w.events ++ (Looked, a) ∷ []) a n z.version) (same_Some (look_now job w) u is) now;
        };
        views = λ i x p. inl p;
      }

  viewing : (n : ℕ) (place : ViewerPlace) → IsTimedViewer job w.events a n place → AreTimed job (viewer_step job w a n place)
  viewing n looks t = by (is_free w) refl where
    by : (b : Bool) → is_free w ≡ b → AreTimed job (cond b (after_look n) w)
    by true e = looking n t (stored.current e)
    by false e = was
  viewing n (leaves_looked v) t = going_on None n v v.todo t.beyond t.number (t.taken v refl)
  viewing n (reads v) t = reading n v v.todo t
  viewing n (returns v) t = pick (AreTimed job) (is_free w) (after_return n v) w (timed job w (after_return n v) a was record {
    actor = viewer n leaves_returned;
    actors = refl;
    rest = [];
    events = append-nil w.events;
    quiet = λ b ne. refl;
    mine = record { beyond = t.beyond; number = t.number; taken = λ u is. absurd (none-some u is) };
    views = λ i x p. inl p;
  }) was
  viewing n leaves_returned t = timed job w (viewer_step job w a n leaves_returned) a was record {
    actor = viewer (n + 1) looks;
    actors = refl;
    rest = [];
    events = append-nil w.events;
    quiet = λ b ne. refl;
    mine = let e = t.number in record { beyond = t.beyond; number = omega arith; taken = λ u is. absurd (none-some u is) };
    views = λ i x p. inl p;
  }

  acting : (x : Option Actor) → slice_get w.actors a ≡ x → AreTimed job (actor_step job w a x)
  acting None e = was
  acting (Some (loader [] place)) e = was
  acting (Some (loader (b ∷ bs) place)) e =
      loaded (seat_of (loader (b ∷ bs) place)) (actor_step job w a (Some (loader (b ∷ bs) place))) (loading job w a b bs place)
  acting (Some (viewer n place)) e =
      pick (AreTimed job) (nat_lt job.frames n) w (viewer_step job w a n place) was (viewing n place (was.actors a (viewer n place) e))

step_timed : (job : JobValue) (w : World) (a : ℕ) → IsStored job w → AreTimed job w → AreTimed job (step job w a)
unfolding step
step_timed job w a stored was = acting job w a stored was (slice_get w.actors a) refl

pub run_timed : (job : JobValue) (w : World) (schedule : List ℕ) → ((n : ℕ) → IsStored job (run_from job w (take n schedule))) → AreTimed job w
    → AreTimed job (run_from job w schedule)
run_timed job w [] stored was = was
run_timed job w (a ∷ schedule) stored was = run_timed job (step job w a) schedule (λ n. stored (suc n)) (step_timed job w a (stored 0) was)

-- ---- the opening world

-- an item of two lists stands in the first one, or behind it in the second
pub split_at : {X : Type 0} (xs ys : List X) (b : ℕ) (x : X) (F : Type 0) → IsAt (xs ++ ys) b x → (IsAt xs b x → F)
    → ((i : ℕ) → IsAt ys i x → length xs ≤ b → F) → F
split_at [] ys b x F p left right = right b p (omega arith)
split_at (z ∷ zs) ys zero x F p left right = left p
split_at (z ∷ zs) ys (suc b) x F p left right = split_at zs ys b x F p left (λ i q le. right i q (omega arith))

pub opening_timed : (job : JobValue) → AreTimed job (opening_world job)
opening_timed job = record {
  actors =
      λ b x p. split_at (map (λ k. loader (batches_of job k) admits) (up_to job.loaders))
      (map (λ (k : ℕ). viewer 1 looks) (up_to job.viewers)) b x (IsTimed job [] b x) p
      (λ q. let t = in_map_at (λ k. loader (batches_of job k) admits) (up_to job.loaders) b x q in subst (IsTimed job [] b) t.2 tt)
      (λ i q le.
      let t = in_map_at (λ (k : ℕ). viewer 1 looks) (up_to job.viewers) i x q in
      let long : length (map (λ k. loader (batches_of job k) admits) (up_to job.loaders)) ≡ job.loaders =
      length-map (up_to job.loaders) _ ∙ length-up_to job.loaders in
      subst (IsTimed job [] b) t.2 record { beyond = omega arith; number = refl; taken = λ u is. absurd (none-some u is) });
  views = λ i x p. absurd (none-some x p);
}
