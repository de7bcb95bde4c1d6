-- What becomes of the batches of loaders: whatever actors make steps, each loader's entries and refused rows answer its first batches.
use Rattle.std.proofs.Common.{◌≡◌, ◌==◌, ℕ, zero, suc, ◌+◌, ◌%◌, ◌≢◌, ◌⊎◌, inl, inr, Bool, true, false, cond, List, [], ◌∷◌, ◌++◌, map, set, refl, sym, ap, ◌∙◌, subst, arith, append-nil, append_assoc}
use Rattle.std.specs.Prelude.{Option, Some, None, filter_map, nat_lt, slice_get}
use Rattle.std.specs.List.{cons_option}
use Rattle.std.proofs.lemmas.Option.{none-some, same_Some}
use Rattle.std.proofs.lemmas.Bool.Decides.{nat_tests}
use Rattle.std.proofs.lemmas.List.{map-append}
use Rattle.std.proofs.lemmas.List.Elements.{filter-append, filter_map-append}
use Rattle.cube_math.specs.Batches.{BatchValue}
use Rattle.cube_math.specs.declared.refused.Cause.{Cause}
use Rattle.cube_math.specs.declared.refused.RefusedRow.{RefusedRow}
use Rattle.list_machine.specs.Facts.{IsAt}
use Rattle.list_machine.specs.Moves.{seat_joined, seat_made}
use Rattle.list_machine.proofs.Lists.{at_set, at_filter}
use Rattle.octree_model.specs.Numbers.{up_to}
use Rattle.record_model.specs.Records.{JournalEntry, journal}
use Rattle.record_model.specs.declared.event.Event.TheVariants.{Look as Looked}
use Rattle.sim_world.specs.Answers.{Answer, Published, Refused, entry_for, refusal_for, entries_of, refusals_of, IsAnswered, is_settled, unanswered}
use Rattle.sim_world.specs.Frames.{goes_on, read_step, look_now}
use Rattle.sim_world.specs.Jobs.{JobValue, batches_of}
use Rattle.sim_world.specs.Steps.{actor_step, viewer_step, step, run_from}
use Rattle.sim_world.specs.Stores.{IsIn}
use Rattle.sim_world.specs.Worlds.{Slot, Look, LoaderPlace, admits, ViewerPlace, looks, leaves_looked, reads, returns, leaves_returned, Actor, loader, viewer, World, opening_world, at_viewer, entered, is_free, noted, with_lists}
use Rattle.sim_world.proofs.Members.{in_map_at, in_map_back, in_right, at_up_to}
use Rattle.sim_world.proofs.LookTimeLaws.{split_at}
use Rattle.sim_world.proofs.ProgressLaws.{Progress, stands, refuses, publishes, finishes, progress, journal_goes_on}
use Rattle.sim_world.proofs.ProgressLaws.{goes_on as continues}
use Rattle.sim_world.proofs.SeatLaws.{pick}

-- ---- one loader

-- an item of another loader does not count
other_loader : (k a : ℕ) → a ≢ k → (a == k) ≡ false
other_loader k a ne = grind (arith, nat_tests)

own_loader : (k : ℕ) → (k == k) ≡ true
own_loader k = grind (arith, nat_tests)

-- the loader of an unanswered batch
batch_loader : (job : JobValue) (k : ℕ) (es : List JournalEntry) (rows : List RefusedRow) (b : BatchValue) (bs : List BatchValue)
    → IsAnswered job k es rows (b ∷ bs) → b.input % job.loaders ≡ k
batch_loader job k es rows b bs is =
    let here : IsIn (batches_of job k) b =
    subst (λ (xs : List BatchValue). IsIn xs b) is.batches (in_right (map (λ (x : BatchValue × Answer). x.0) is.answers) (b ∷ bs) b (zero, refl)) in
    let t = at_filter (λ (c : BatchValue). c.input % job.loaders == k) job.batches here.0 b here.1 in
    let e = t.2 in
    grind (arith, nat_tests)

-- the first unanswered batch is refused
refused_more : (job : JobValue) (k : ℕ) (es : List JournalEntry) (rows : List RefusedRow) (b : BatchValue) (bs : List BatchValue) (cause : Cause)
    → IsAnswered job k es rows (b ∷ bs) → IsAnswered job k es (rows ++ record { input = b.input; cause = cause } ∷ []) bs
refused_more job k es rows b bs cause is =
    let x : BatchValue × Answer = (b, Refused cause) in
    let mine : (b.input % job.loaders == k) ≡ true = ap (λ z. z == k) (batch_loader job k es rows b bs is) ∙ own_loader k in
    record {
      answers = is.answers ++ x ∷ [];
      batches = ap (λ (xs : List BatchValue). xs ++ bs) (map-append (λ (y : BatchValue × Answer). y.0) is.answers (x ∷ []))
          ∙ (append_assoc (map (λ (y : BatchValue × Answer). y.0) is.answers) (b ∷ []) bs ∙ is.batches);
      published = filter_map-append (entry_for k) is.answers (x ∷ []) ∙ (append-nil (filter_map (entry_for k) is.answers) ∙ is.published);
      refused = filter_map-append refusal_for is.answers (x ∷ [])
          ∙ (ap (λ (rs : List RefusedRow). rs ++ record { input = b.input; cause = cause } ∷ []) is.refused
          ∙ sym (filter-append (λ (r : RefusedRow). r.input % job.loaders == k) rows (record { input = b.input; cause = cause } ∷ [])
          ∙ ap (λ c. refusals_of job k rows ++ cond c (record { input = b.input; cause = cause } ∷ []) []) mine));
    }

-- it is published
published_more : (job : JobValue) (k : ℕ) (es : List JournalEntry) (rows : List RefusedRow) (b : BatchValue) (bs : List BatchValue)
    → IsAnswered job k es rows (b ∷ bs) → IsAnswered job k (es ++ record { input = b.input; loader = k; points = b.points } ∷ []) rows bs
published_more job k es rows b bs is =
    let x : BatchValue × Answer = (b, Published) in
    let entry : JournalEntry = record { input = b.input; loader = k; points = b.points } in
    record {
      answers = is.answers ++ x ∷ [];
      batches = ap (λ (xs : List BatchValue). xs ++ bs) (map-append (λ (y : BatchValue × Answer). y.0) is.answers (x ∷ []))
          ∙ (append_assoc (map (λ (y : BatchValue × Answer). y.0) is.answers) (b ∷ []) bs ∙ is.batches);
      published = filter_map-append (entry_for k) is.answers (x ∷ [])
          ∙ (ap (λ (xs : List JournalEntry). xs ++ entry ∷ []) is.published
          ∙ sym (filter-append (λ (e : JournalEntry). e.loader == k) es (entry ∷ []) ∙ ap (λ c. entries_of k es ++ cond c (entry ∷ []) []) (own_loader k)));
      refused = filter_map-append refusal_for is.answers (x ∷ []) ∙ (append-nil (filter_map refusal_for is.answers) ∙ is.refused);
    }

-- and for the other loaders nothing happens
refused_elsewhere : (job : JobValue) (k : ℕ) (es : List JournalEntry) (rows : List RefusedRow) (rest : List BatchValue) (r : RefusedRow)
    → r.input % job.loaders ≢ k → IsAnswered job k es rows rest → IsAnswered job k es (rows ++ r ∷ []) rest
refused_elsewhere job k es rows rest r ne is = record {
  answers = is.answers;
  batches = is.batches;
  published = is.published;
  refused = is.refused ∙ sym (filter-append (λ (q : RefusedRow). q.input % job.loaders == k) rows (r ∷ [])
      ∙ (ap (λ c. refusals_of job k rows ++ cond c (r ∷ []) []) (other_loader k (r.input % job.loaders) ne) ∙ append-nil (refusals_of job k rows)));
}

published_elsewhere : (job : JobValue) (k : ℕ) (es : List JournalEntry) (rows : List RefusedRow) (rest : List BatchValue) (e : JournalEntry)
    → e.loader ≢ k → IsAnswered job k es rows rest → IsAnswered job k (es ++ e ∷ []) rows rest
published_elsewhere job k es rows rest e ne is = record {
  answers = is.answers;
  batches = is.batches;
  published = is.published ∙ sym (filter-append (λ (x : JournalEntry). x.loader == k) es (e ∷ [])
      ∙ (ap (λ c. entries_of k es ++ cond c (e ∷ []) []) (other_loader k e.loader ne) ∙ append-nil (entries_of k es)));
  refused = is.refused;
}

-- ---- all loaders

abbrev pub AreAnswered : JobValue → World → Type 0
AreAnswered job w = (k : ℕ) (bs : List BatchValue) (place : LoaderPlace) → IsAt w.actors k (loader bs place)
    → IsAnswered job k (journal w.events) w.refused (unanswered place bs)

-- a step after which journal and rows are these
module _ (job : JobValue) (w w' : World) (a : ℕ) (x : Actor) (was : AreAnswered job w) (actors : w'.actors ≡ set w.actors a x) where
  answered : ((bs : List BatchValue) (place : LoaderPlace) → x ≡ loader bs place → IsAnswered job a (journal w'.events) w'.refused (unanswered place bs))
      → ((k : ℕ) (rest : List BatchValue) → k ≢ a → IsAnswered job k (journal w.events) w.refused rest → IsAnswered job k (journal w'.events) w'.refused rest)
      → AreAnswered job w'
  answered mine others k bs place p = at_set w.actors a k x (loader bs place) _ (subst (λ (xs : List Actor). IsAt xs k (loader bs place)) actors p)
      (λ same is. subst (λ (z : ℕ). IsAnswered job z (journal w'.events) w'.refused (unanswered place bs)) (sym same) (mine bs place is))
      (λ ne q. others k (unanswered place bs) ne (was k bs place q))

  -- nothing was answered
  quiet : journal w'.events ≡ journal w.events → w'.refused ≡ w.refused
      → ((bs : List BatchValue) (place : LoaderPlace) → x ≡ loader bs place → IsAnswered job a (journal w.events) w.refused (unanswered place bs))
      → AreAnswered job w'
  quiet es rows mine = answered (λ bs place is. moved a (unanswered place bs) (mine bs place is)) (λ k rest ne t. moved k rest t) where
    moved : (k : ℕ) (rest : List BatchValue) → IsAnswered job k (journal w.events) w.refused rest → IsAnswered job k (journal w'.events) w'.refused rest
    moved k rest t = subst (λ (z : List JournalEntry). IsAnswered job k z w'.refused rest) (sym es)
        (subst (λ (z : List RefusedRow). IsAnswered job k (journal w.events) z rest) (sym rows) t)

same_loader : (bs cs : List BatchValue) (p q : LoaderPlace) → loader bs p ≡ loader cs q → (bs ≡ cs) × (p ≡ q)
same_loader bs cs p q e = (cc, cc)

no_loader : (bs : List BatchValue) (p : LoaderPlace) (n : ℕ) (q : ViewerPlace) → viewer n q ≡ loader bs p → ⊥
no_loader bs p n q e = absurd (cc)

module _ (job : JobValue) (w : World) (a : ℕ) (was : AreAnswered job w) where
  -- the answers of the loader a at another place
  elsewhere : (es : List JournalEntry) (rows : List RefusedRow) (b : BatchValue) (bs : List BatchValue) (settled : Bool) (place : LoaderPlace)
      → is_settled place ≡ settled
      → IsAnswered job a es rows (cond settled bs (b ∷ bs)) → (cs : List BatchValue) (q : LoaderPlace) → loader (b ∷ bs) place ≡ loader cs q
      → IsAnswered job a es rows (unanswered q cs)
  elsewhere es rows b bs settled place is t cs q e =
      let s = same_loader (b ∷ bs) cs place q e in
      let now : IsAnswered job a es rows (unanswered place (b ∷ bs)) = subst (λ (z : Bool). IsAnswered job a es rows (cond z bs (b ∷ bs))) (sym is) t in
      subst (λ (z : List BatchValue × LoaderPlace). IsAnswered job a es rows (unanswered z.1 z.0)) (λ i. (s.0 i, s.1 i)) now

  after : (b : BatchValue) (bs : List BatchValue) (settled : Bool) (w' : World) → IsAnswered job a (journal w.events) w.refused (cond settled bs (b ∷ bs))
      → Progress w a b bs settled w' → AreAnswered job w'
  after b bs settled w' t (stands e) = subst (AreAnswered job) (sym e) was
  after b bs settled w' t (continues place actors is es rows) =
      quiet job w w' a (loader (b ∷ bs) place) was actors es rows (elsewhere (journal w.events) w.refused b bs settled place is t)
  after b bs settled w' t (refuses place cause actors is unsettled es rows) =
      let r : RefusedRow = record { input = b.input; cause = cause } in
      let before : IsAnswered job a (journal w.events) w.refused (b ∷ bs) =
      subst (λ (z : Bool). IsAnswered job a (journal w.events) w.refused (cond z bs (b ∷ bs))) unsettled t in
      let mine : b.input % job.loaders ≡ a = batch_loader job a (journal w.events) w.refused b bs before in
      subst (λ (z : List JournalEntry × List RefusedRow). (k : ℕ) (cs : List BatchValue) (q : LoaderPlace) → IsAt w'.actors k (loader cs q)
      → IsAnswered job k z.0 z.1 (unanswered q cs))
      (λ i. (sym es i, sym rows i))
      (λ k cs q p. at_set w.actors a k (loader (b ∷ bs) place) (loader cs q) _ (subst (λ (xs : List Actor). IsAt xs k (loader cs q)) actors p)
      (λ same e. subst (λ (z : ℕ). IsAnswered job z (journal w.events) (w.refused ++ r ∷ []) (unanswered q cs)) (sym same)
      (elsewhere (journal w.events) (w.refused ++ r ∷ []) b bs true place is (refused_more job a (journal w.events) w.refused b bs cause before) cs q e))
      (λ ne p'. refused_elsewhere job k (journal w.events) w.refused (unanswered q cs) r (λ e. ne (sym e ∙ mine)) (was k cs q p')))
  after b bs settled w' t (publishes place actors is unsettled es rows) =
      let e : JournalEntry = record { input = b.input; loader = a; points = b.points } in
      let before : IsAnswered job a (journal w.events) w.refused (b ∷ bs) =
      subst (λ (z : Bool). IsAnswered job a (journal w.events) w.refused (cond z bs (b ∷ bs))) unsettled t in
      subst (λ (z : List JournalEntry × List RefusedRow). (k : ℕ) (cs : List BatchValue) (q : LoaderPlace) → IsAt w'.actors k (loader cs q)
      → IsAnswered job k z.0 z.1 (unanswered q cs))
      (λ i. (sym es i, sym rows i))
      (λ k cs q p. at_set w.actors a k (loader (b ∷ bs) place) (loader cs q) _ (subst (λ (xs : List Actor). IsAt xs k (loader cs q)) actors p)
      (λ same e'. subst (λ (z : ℕ). IsAnswered job z (journal w.events ++ e ∷ []) w.refused (unanswered q cs)) (sym same)
      (elsewhere (journal w.events ++ e ∷ []) w.refused b bs true place is (published_more job a (journal w.events) w.refused b bs before) cs q e'))
      (λ ne p'. published_elsewhere job k (journal w.events) w.refused (unanswered q cs) e (λ same. ne (sym same)) (was k cs q p')))
  after b bs settled w' t (finishes actors done es rows) =
      let behind : IsAnswered job a (journal w.events) w.refused bs =
      subst (λ (z : Bool). IsAnswered job a (journal w.events) w.refused (cond z bs (b ∷ bs))) done t in
      quiet job w w' a (loader bs admits) was actors es rows (λ cs q e.
      let s = same_loader bs cs admits q e in
      subst (λ (z : List BatchValue × LoaderPlace). IsAnswered job a (journal w.events) w.refused (unanswered z.1 z.0)) (λ i. (s.0 i, s.1 i)) behind)

  -- a viewer answers nothing
  viewed : (w' : World) (n : ℕ) (place : ViewerPlace) → w'.actors ≡ set w.actors a (viewer n place) → journal w'.events ≡ journal w.events
      → w'.refused ≡ w.refused → AreAnswered job w'
  viewed w' n place actors es rows = quiet job w w' a (viewer n place) was actors es rows (λ bs q e. absurd (no_loader bs q n place e))

  going_on : (h : Option ℕ) (n : ℕ) (v : Look) (ds : List Slot) → AreAnswered job (goes_on job (record w { holder = h }) a n v ds)
  going_on h n v [] = viewed (goes_on job (record w { holder = h }) a n v []) n (returns v) refl refl refl
  going_on h n v (d ∷ ds) = viewed (goes_on job (record w { holder = h }) a n v (d ∷ ds)) n (reads v) refl refl refl

  reading : (n : ℕ) (v : Look) (ds : List Slot) → AreAnswered job (read_step job w a n v ds)
  reading n v [] = was
  reading n v (d ∷ ds) = going_on w.holder n _ ds

  abbrev after_look : ℕ → World
  after_look n = at_viewer (with_lists (noted (entered w a) Looked a) (seat_made w.lists [])) a n (leaves_looked (look_now job w))

  abbrev after_return : ℕ → Look → World
  after_return n v = at_viewer (with_lists (entered w a) (seat_joined w.lists v.seat)) a n leaves_returned

  viewing : (n : ℕ) (place : ViewerPlace) → AreAnswered job (viewer_step job w a n place)
  viewing n looks = pick (AreAnswered job) (is_free w) (after_look n) w
      (viewed (after_look n) n (leaves_looked (look_now job w)) refl (journal_goes_on w.events ((Looked, a) ∷ []) ∙ append-nil (journal w.events)) refl) was
  viewing n (leaves_looked v) = going_on None n v v.todo
  viewing n (reads v) = reading n v v.todo
  viewing n (returns v) = pick (AreAnswered job) (is_free w) (after_return n v) w (viewed (after_return n v) n leaves_returned refl refl refl) was
  viewing n leaves_returned = viewed (viewer_step job w a n leaves_returned) (n + 1) looks refl refl refl

  acting : (x : Option Actor) → slice_get w.actors a ≡ x → AreAnswered job (actor_step job w a x)
  acting None e = was
  acting (Some (loader [] place)) e = was
  acting (Some (loader (b ∷ bs) place)) e =
      after b bs (is_settled place) (actor_step job w a (Some (loader (b ∷ bs) place))) (was a (b ∷ bs) place e) (progress job w a b bs place)
  acting (Some (viewer n place)) e = pick (AreAnswered job) (nat_lt job.frames n) w (viewer_step job w a n place) was (viewing n place)

step_answered : (job : JobValue) (w : World) (a : ℕ) → AreAnswered job w → AreAnswered job (step job w a)
unfolding step
step_answered job w a was = acting job w a was (slice_get w.actors a) refl

run_from_answered : (job : JobValue) (w : World) (schedule : List ℕ) → AreAnswered job w → AreAnswered job (run_from job w schedule)
run_from_answered job w [] was = was
run_from_answered job w (a ∷ schedule) was = run_from_answered job (step job w a) schedule (step_answered job w a was)

-- ---- the opening world

opening_answered : (job : JobValue) → AreAnswered job (opening_world job)
opening_answered job k bs place p =
    split_at (map (λ i. loader (batches_of job i) admits) (up_to job.loaders)) (map (λ (i : ℕ). viewer 1 looks) (up_to job.viewers)) k (loader bs place) _ p
    (λ q.
    let t = in_map_at (λ i. loader (batches_of job i) admits) (up_to job.loaders) k (loader bs place) q in
    let same : t.0 ≡ k = (at_up_to job.loaders k t.0 t.1).1 in
    let s = same_loader (batches_of job t.0) bs admits place t.2 in
    let none : IsAnswered job k [] [] (batches_of job k) = record { answers = []; batches = refl; published = refl; refused = refl } in
    subst (λ (z : List BatchValue × LoaderPlace). IsAnswered job k [] [] (unanswered z.1 z.0)) (λ i. (s.0 i, s.1 i))
    (subst (λ (z : ℕ). IsAnswered job k [] [] (batches_of job z)) (sym same) none))
    (λ i q le. let t = in_map_at (λ (j : ℕ). viewer 1 looks) (up_to job.viewers) i (loader bs place) q in absurd (no_loader bs place 1 looks t.2))

pub run_answered : (job : JobValue) (schedule : List ℕ) → AreAnswered job (run_from job (opening_world job) schedule)
run_answered job schedule = run_from_answered job (opening_world job) schedule (opening_answered job)

-- ---- a loader whose script has ended

nothing_left : (place : LoaderPlace) → unanswered place [] ≡ []
nothing_left place = by (is_settled place) where
  by : (b : Bool) → cond {A = List BatchValue} b [] [] ≡ []
  by true = refl
  by false = refl

in_filter_map : {X Y : Type 0} (h : X → Option Y) (xs : List X) (x : X) (y : Y) → IsIn xs x → h x ≡ Some y → IsIn (filter_map h xs) y
in_filter_map {X} {Y} h xs x y p is = by xs p.0 p.1 where
  kept : (o : Option Y) (ys : List Y) → IsIn ys y → IsIn (cons_option o ys) y
  kept None ys q = q
  kept (Some z) ys q = (suc q.0, q.1)

  by : (zs : List X) (k : ℕ) → IsAt zs k x → IsIn (filter_map h zs) y
  by [] k at = absurd (none-some x at)
  by (z ∷ zs) zero at =
      let e : h z ≡ Some y = ap h (same_Some z x at) ∙ is in
      subst (λ (o : Option Y). IsIn (cons_option o (filter_map h zs)) y) (sym e) (zero, refl)
  by (z ∷ zs) (suc k) at = kept (h z) (filter_map h zs) (by zs k at)

-- each of its batches is in the journal or refused
pub none_lost : (job : JobValue) (w : World) (k : ℕ) (place : LoaderPlace) (b : BatchValue) → AreAnswered job w → IsAt w.actors k (loader [] place)
    → IsIn (batches_of job k) b
    → IsIn (journal w.events) record { input = b.input; loader = k; points = b.points } ⊎
    ((cause : Cause) × IsIn w.refused record { input = b.input; cause = cause })
none_lost job w k place b was at here =
    let is : IsAnswered job k (journal w.events) w.refused [] =
    subst (IsAnswered job k (journal w.events) w.refused) (nothing_left place) (was k [] place at) in
    let all : map (λ (x : BatchValue × Answer). x.0) is.answers ≡ batches_of job k =
    sym (append-nil (map (λ (x : BatchValue × Answer). x.0) is.answers)) ∙ is.batches in
    let t = in_map_back (λ (x : BatchValue × Answer). x.0) is.answers b (subst (λ (xs : List BatchValue). IsIn xs b) (sym all) here) in
    by is t.0 t.1 t.2 where
      by : (is : IsAnswered job k (journal w.events) w.refused []) (x : BatchValue × Answer) → IsIn is.answers x → x.0 ≡ b
          → IsIn (journal w.events) record { input = b.input; loader = k; points = b.points } ⊎
          ((cause : Cause) × IsIn w.refused record { input = b.input; cause = cause })
      by is (c, Published) p same =
          let e : JournalEntry = record { input = b.input; loader = k; points = b.points } in
          let q =
          in_filter_map (entry_for k) is.answers (c, Published) e p
          (ap (λ (z : BatchValue). Some record { input = z.input; loader = k; points = z.points }) same) in
          let r = subst (λ (es : List JournalEntry). IsIn es e) is.published q in
          let f = at_filter (λ (z : JournalEntry). z.loader == k) (journal w.events) r.0 e r.1 in
          inl (f.0, f.1)
      by is (c, Refused cause) p same =
          let row : RefusedRow = record { input = b.input; cause = cause } in
          let q =
          in_filter_map refusal_for is.answers (c, Refused cause) row p (ap (λ (z : BatchValue). Some record { input = z.input; cause = cause }) same) in
          let r = subst (λ (rs : List RefusedRow). IsIn rs row) is.refused q in
          let f = at_filter (λ (z : RefusedRow). z.input % job.loaders == k) w.refused r.0 row r.1 in
          inr (cause, (f.0, f.1))
