-- What finished frames show.
use Rattle.std.specs.Prelude.{◌≡◌, ℕ, ◌+◌, ◌≤◌, ◌==◌, Bool, false, ◌∷◌, ◌++◌, filter, length, take}
use Rattle.octree_model.specs.Octree.{octree}
use Rattle.picture_model.specs.Items.{IsSameItems, items}
use Rattle.record_model.specs.Records.{Record, journal, flat}
use Rattle.record_model.specs.declared.event.Event.{Event}
use Rattle.record_model.specs.declared.event.Event.TheVariants.{Admission, Publication, Look}
use Rattle.sim_world.specs.Jobs.{JobValue}
use Rattle.sim_world.specs.Worlds.{ViewValue, World}

-- a finished frame shows the octree of the first entries of the journal, as many as it tells: its items are those that the
-- camera sees of this octree
pub record IsShown (job : JobValue) (w : World) (v : ViewValue) : Type 0 where
  pub within : v.length ≤ length (journal w.events)
  pub items : IsSameItems v.items (items job.camera (octree job.config.leaf job.config.cube (flat (take v.length (journal w.events)))) job.config.cube)

-- whether an event is a look of an actor
abbrev pub is_look_of : ℕ → Event × ℕ → Bool
is_look_of a (Admission input points, b) = false
is_look_of a (Publication input points, b) = false
is_look_of a (Look, b) = b == a

-- how many looks of an actor a record has
abbrev pub looks_of : ℕ → Record → ℕ
looks_of a events = length (filter (is_look_of a) events)

-- the n-th look of an actor, from 1, comes behind these events of a record
pub record IsLook (events : Record) (a n : ℕ) (before : Record) : Type 0 where
  pub behind : Record
  pub is : before ++ (Look, a) ∷ behind ≡ events
  pub number : looks_of a before + 1 ≡ n

-- a finished frame, the n-th of its viewer, tells the length of the journal as it was at the viewer's n-th look
pub record IsOfItsLook (job : JobValue) (w : World) (v : ViewValue) : Type 0 where
  pub before : Record
  pub look : IsLook w.events (job.loaders + v.viewer) v.frame before
  pub seen : v.length ≡ length (journal before)
