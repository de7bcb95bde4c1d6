-- A world: the lists with their seats, the turn, the record, the version, and where each actor stands in its script.
use Rattle.std.specs.Prelude.{ℕ, List, [], ◌∷◌, ◌++◌, map, slice_set, Bool, true, false, Option, Some, None}
use Rattle.cube_math.specs.Batches.{BatchValue}
use Rattle.cube_math.specs.declared.refused.Cause.{Cause}
use Rattle.cube_math.specs.declared.refused.RefusedRow.{RefusedRow}
use Rattle.octree_model.specs.Numbers.{up_to}
use Rattle.picture_model.specs.Items.{ItemValue}
use Rattle.list_machine.specs.State.{zero_words}
use Rattle.list_machine.specs.Machine.{State, state}
use Rattle.list_machine.specs.Steps.{opening}
use Rattle.record_model.specs.Records.{Record}
use Rattle.record_model.specs.declared.event.Event.{Event}
use Rattle.sim_world.specs.Jobs.{JobValue, batches_of}
use Rattle.sim_world.specs.Versions.{WorldVersion, opening_version}

-- an item that is to be filed in a list
pub record Task : Type 0 where
  pub item : ℕ
  pub list : ℕ

-- the chunks of a list's claimed chain that a filing knows, by rank
pub record Walk : Type 0 where
  pub list : ℕ
  pub chunks : List ℕ

-- a filing: its seat, its first item, what it has not tried yet, how far it knows the chains, and its late items
pub record Filing : Type 0 where
  pub seat : ℕ
  pub first : ℕ
  pub todo : List Task
  pub walks : List Walk
  pub late : List ℕ

-- a slot of a chunk
pub record Slot : Type 0 where
  pub chunk : ℕ
  pub place : ℕ

-- a frame that is out: its seat, its version, the slots that are still to be read, and the items that were found
pub record Look : Type 0 where
  pub seat : ℕ
  pub version : WorldVersion
  pub todo : List Slot
  pub found : List ℕ

-- what a loader does next with the first batch that it has not done
pub data LoaderPlace : Type 0 where
  -- 1. it enters, clears what may be cleared, and the admission is decided
  admits : LoaderPlace
  clears_first : LoaderPlace
  -- 2. it links a chunk behind the claimed chain of each of these lists
  links : List ℕ → LoaderPlace
  -- 3. it leaves, with or without a filing
  leaves_admitted : LoaderPlace
  leaves_refused : LoaderPlace
  -- 4. it claims, reads links and files; 5. once all is tried it enters
  files : Filing → LoaderPlace
  -- 5. it clears what may be cleared, and the publication is decided
  clears_again : Filing → LoaderPlace
  -- where that is refused, it leaves, gives its seat back in a turn of its own, and leaves
  leaves_unpublished : Filing → LoaderPlace
  gives_back : Filing → LoaderPlace
  -- 6. it shuts the first of these lists, marks its slots, and files the items that it found
  shuts : Filing → List ℕ → LoaderPlace
  marks : Filing → ℕ → List ℕ → List ℕ → LoaderPlace
  moves : Filing → List ℕ → List ℕ → LoaderPlace
  -- 7. it files these late items
  places : Filing → List ℕ → LoaderPlace
  -- 8., 9. it commits and leaves
  commits : Filing → LoaderPlace
  leaves_published : LoaderPlace

-- what a viewer does next for its frame
pub data ViewerPlace : Type 0 where
  -- it enters and takes the version, and leaves
  looks : ViewerPlace
  leaves_looked : Look → ViewerPlace
  -- it reads slot after slot
  reads : Look → ViewerPlace
  -- it gives its seat back in a turn of its own, and leaves
  returns : Look → ViewerPlace
  leaves_returned : ViewerPlace

-- an actor: a loader with the batches that it has not done, or a viewer with the number of its frame, from 1
pub data Actor : Type 0 where
  loader : List BatchValue → LoaderPlace → Actor
  viewer : ℕ → ViewerPlace → Actor

-- a finished frame: its viewer, its number, the length of the journal that it shows, and its items
pub record ViewValue : Type 0 where
  pub viewer : ℕ
  pub frame : ℕ
  pub length : ℕ
  pub items : List ItemValue

-- a world: the lists, how many of them were given to leaves, who holds the turn, the record, the version, the refused batches,
-- the actors, and the finished frames
pub record World : Type 0 where
  pub lists : State
  pub opened : ℕ
  pub holder : Option ℕ
  pub events : Record
  pub version : WorldVersion
  pub refused : List RefusedRow
  pub actors : List Actor
  pub views : List ViewValue

-- the world before the first step
abbrev pub opening_world : JobValue → World
opening_world job = record {
  lists = state zero_words (opening job.config.nodes) [];
  opened = 1;
  holder = None;
  events = [];
  version = opening_version job.config.cube;
  refused = [];
  actors = map (λ k. loader (batches_of job k) admits) (up_to job.loaders) ++ map (λ k. viewer 1 looks) (up_to job.viewers);
  views = [];
}

-- ---- the world with one part changed

-- the actor a stands elsewhere
abbrev pub with_actor : World → ℕ → Actor → World
with_actor w a x = record w { actors = slice_set w.actors a x }

abbrev pub at_loader : World → ℕ → List BatchValue → LoaderPlace → World
at_loader w a bs place = with_actor w a (loader bs place)

abbrev pub at_viewer : World → ℕ → ℕ → ViewerPlace → World
at_viewer w a n place = with_actor w a (viewer n place)

abbrev pub with_lists : World → State → World
with_lists w s = record w { lists = s }

-- the actor a holds the turn, or nobody does
abbrev pub entered : World → ℕ → World
entered w a = record w { holder = Some a }

abbrev pub left : World → World
left w = record w { holder = None }

-- the batch joins the refused ones
abbrev pub refused_for : World → BatchValue → Cause → World
refused_for w b cause = record w { refused = w.refused ++ record { input = b.input; cause = cause } ∷ [] }

-- the record has one event more, of the actor a
abbrev pub noted : World → Event → ℕ → World
noted w e a = record w { events = w.events ++ (e, a) ∷ [] }

abbrev pub is_none : Option ℕ → Bool
is_none None = true
is_none (Some a) = false

-- whether nobody holds the turn
abbrev pub is_free : World → Bool
is_free w = is_none w.holder
