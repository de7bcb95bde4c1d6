-- One step of an actor, by cases of its place in its script, and the run of a schedule.
use Rattle.std.specs.Prelude.{ℕ, ◌+◌, nat_lt, List, [], ◌∷◌, length, slice_get, Option, Some, None, if◌then◌else◌}
use Rattle.cube_math.specs.Batches.{BatchValue}
use Rattle.cube_math.specs.declared.refused.Cause.{Cause}
use Rattle.list_machine.specs.Moves.{guest_in, may_clear, word_cleared, chunk_linked, seat_made, seat_joined, list_shut, item_placed}
use Rattle.record_model.specs.declared.event.Event.TheVariants.{Admission, Publication, Look}
use Rattle.sim_world.specs.Chunks.{least_free}
use Rattle.sim_world.specs.Decisions.{admission_cause, publication_cause}
use Rattle.sim_world.specs.Filings.{links_due, grants_for, filing_for, task_step, to_links}
use Rattle.sim_world.specs.Frames.{look_now, goes_on, read_step}
use Rattle.sim_world.specs.Jobs.{JobValue}
use Rattle.sim_world.specs.Publications.{new_rows, splits_due, adopted_for, list_of_item, to_places, to_shuts, to_moves, to_marks, marked_step, next_version}
use Rattle.sim_world.specs.Worlds.{Task, Filing, LoaderPlace, admits, clears_first, links, leaves_admitted, leaves_refused, files, clears_again, leaves_unpublished, gives_back, shuts, marks, moves, places, commits, leaves_published, ViewerPlace, looks, leaves_looked, reads, returns, leaves_returned, Actor, loader, viewer, World, opening_world, at_loader, at_viewer, with_lists, entered, left, refused_for, noted, is_free}

-- ---- the loader a, at work on the batch b, with the batches bs behind it

-- its admission is decided
abbrev pub admission_decided : JobValue → World → ℕ → BatchValue → List BatchValue → Option Cause → World
admission_decided job w a b bs (Some cause) = at_loader (refused_for w b cause) a (b ∷ bs) leaves_refused
admission_decided job w a b bs None = at_loader (noted w (Admission b.input b.points) a) a (b ∷ bs) (to_links (links_due w b))

-- where there is nothing to clear; else it clears first
abbrev pub before_admission : JobValue → World → ℕ → BatchValue → List BatchValue → World
before_admission job w a b bs =
    if may_clear w.lists then at_loader w a (b ∷ bs) clears_first
    else admission_decided job w a b bs (admission_cause job w a b)

-- its publication is decided
abbrev pub publication_decided : JobValue → World → ℕ → BatchValue → List BatchValue → Filing → Option Cause → World
publication_decided job w a b bs f (Some cause) = at_loader (refused_for w b cause) a (b ∷ bs) (leaves_unpublished f)
publication_decided job w a b bs f None = at_loader (with_lists w (adopted_for job w (new_rows job w b) w.lists)) a (b ∷ bs) (to_shuts f (splits_due job w b))

-- where there is nothing to clear; else it clears first
abbrev pub before_publication : JobValue → World → ℕ → BatchValue → List BatchValue → Filing → World
before_publication job w a b bs f =
    if may_clear w.lists then at_loader w a (b ∷ bs) (clears_again f)
    else publication_decided job w a b bs f (publication_cause job w a b)

-- its filing tries the next item, or enters where none is left
abbrev pub file_step : JobValue → World → ℕ → BatchValue → List BatchValue → Filing → List Task → World
file_step job w a b bs f [] = if is_free w then before_publication job (entered w a) a b bs f else w
file_step job w a b bs f (t ∷ ts) = task_step w a (b ∷ bs) f t.item t.list ts (guest_in w.lists f.seat).claim

-- the publication is in the record, the version is the new one, and the seat is given back
abbrev pub committed : JobValue → World → ℕ → BatchValue → Filing → World
committed job w a b f = record (noted w (Publication b.input b.points) a) {
  lists = seat_joined w.lists f.seat;
  opened = w.opened + length (new_rows job w b);
  version = next_version job w a b f;
}

-- its next step
abbrev pub loader_step : JobValue → World → ℕ → BatchValue → List BatchValue → LoaderPlace → World
loader_step job w a b bs admits = if is_free w then before_admission job (entered w a) a b bs else w
loader_step job w a b bs clears_first = before_admission job (with_lists w (word_cleared w.lists)) a b bs
loader_step job w a b bs (links []) = w
loader_step job w a b bs (links (l ∷ ls)) = at_loader (with_lists w (chunk_linked w.lists l (least_free job.config.chunks w.lists))) a (b ∷ bs) (to_links ls)
loader_step job w a b bs leaves_admitted = at_loader (with_lists (left w) (seat_made w.lists (grants_for w b))) a (b ∷ bs) (files (filing_for w b))
loader_step job w a b bs leaves_refused = at_loader (left w) a bs admits
loader_step job w a b bs (files f) = file_step job w a b bs f f.todo
loader_step job w a b bs (clears_again f) = before_publication job (with_lists w (word_cleared w.lists)) a b bs f
loader_step job w a b bs (leaves_unpublished f) = at_loader (left w) a (b ∷ bs) (gives_back f)
loader_step job w a b bs (gives_back f) = if is_free w then at_loader (with_lists (entered w a) (seat_joined w.lists f.seat)) a (b ∷ bs) leaves_refused else w
loader_step job w a b bs (shuts f []) = w
loader_step job w a b bs (shuts f (l ∷ ls)) = at_loader (with_lists w (list_shut w.lists l)) a (b ∷ bs) (to_marks (list_shut w.lists l) f l [] ls)
loader_step job w a b bs (marks f l found ls) = marked_step w a (b ∷ bs) f l found ls
loader_step job w a b bs (moves f [] ls) = w
loader_step job w a b bs (moves f (x ∷ xs) ls) = at_loader (with_lists w (item_placed w.lists (list_of_item job w b x) x)) a (b ∷ bs) (to_moves f xs ls)
loader_step job w a b bs (places f []) = w
loader_step job w a b bs (places f (x ∷ xs)) = at_loader (with_lists w (item_placed w.lists (list_of_item job w b x) x)) a (b ∷ bs) (to_places f xs)
loader_step job w a b bs (commits f) = at_loader (committed job w a b f) a (b ∷ bs) leaves_published
loader_step job w a b bs leaves_published = at_loader (left w) a bs admits

-- ---- the viewer a, at its frame n

-- its next step
abbrev pub viewer_step : JobValue → World → ℕ → ℕ → ViewerPlace → World
viewer_step job w a n looks =
    if is_free w then at_viewer (with_lists (noted (entered w a) Look a) (seat_made w.lists [])) a n (leaves_looked (look_now job w)) else w
viewer_step job w a n (leaves_looked v) = goes_on job (left w) a n v v.todo
viewer_step job w a n (reads v) = read_step job w a n v v.todo
viewer_step job w a n (returns v) = if is_free w then at_viewer (with_lists (entered w a) (seat_joined w.lists v.seat)) a n leaves_returned else w
viewer_step job w a n leaves_returned = at_viewer (left w) a (n + 1) looks

-- ---- the world

-- a step of the actor a: without such an actor, and where its script has ended, nothing changes
abbrev pub actor_step : JobValue → World → ℕ → Option Actor → World
actor_step job w a None = w
actor_step job w a (Some (loader [] place)) = w
actor_step job w a (Some (loader (b ∷ bs) place)) = loader_step job w a b bs place
actor_step job w a (Some (viewer n place)) = if nat_lt job.frames n then w else viewer_step job w a n place

unfoldable pub step : JobValue → World → ℕ → World
step job w a = actor_step job w a (slice_get w.actors a)

-- the steps of a schedule, from some world on
abbrev pub run_from : JobValue → World → List ℕ → World
run_from job w [] = w
run_from job w (a ∷ schedule) = run_from job (step job w a) schedule

-- the world after a schedule
abbrev pub run : JobValue → List ℕ → World
run job schedule = run_from job (opening_world job) schedule
