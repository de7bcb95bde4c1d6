-- What loaders keep of a world's lists and of its current version.
use Rattle.std.specs.Prelude.{◌≡◌, ℕ, ◌<◌, ◌^◌, Bool, true, false, List, map, IsTrue, Option, Some, None}
use Rattle.cube_math.specs.Points.{PointValue}
use Rattle.cube_math.specs.Cubes.{contains}
use Rattle.octree_model.specs.Leaves.{leaves}
use Rattle.list_machine.specs.Facts.{IsAt}
use Rattle.list_machine.specs.Machine.{IsSound}
use Rattle.list_machine.specs.declared.views.Fact.{Fact}
use Rattle.list_machine.specs.declared.views.Fact.TheVariants.{Item}
use Rattle.list_machine.specs.declared.views.Leaf.{Leaf}
use Rattle.list_machine.specs.declared.views.Stage.TheVariants.{Open}
use Rattle.record_model.specs.Records.{journal}
use Rattle.sim_world.specs.Jobs.{JobValue}
use Rattle.sim_world.specs.Versions.{LeafRow, WorldVersion, entries, published_items, points_in, chunks_of, leaf_node}
use Rattle.sim_world.specs.Worlds.{LoaderPlace, admits, clears_first, links, leaves_admitted, leaves_refused, files, clears_again, leaves_unpublished, gives_back, shuts, marks, moves, places, commits, leaves_published, Actor, loader, viewer, World, is_free}

-- the list has the element at some place
abbrev pub IsIn : {X : Type 0} → List X → X → Type 0
IsIn xs x = (k : ℕ) × IsAt xs k x

-- a fact says that the item is in some slot of a chunk of these
abbrev pub StandsIn : List Fact → ℕ → List ℕ → ℕ → Type 0
StandsIn facts l chunks x = (c : ℕ) × (k : ℕ) × IsIn facts (Item l c k x) × IsIn chunks c × (k < 256)

-- facts cover a version: they know each published item in the chains of the leaf in whose cube its point lies
abbrev pub Covers : WorldVersion → List Fact → Type 0
Covers v facts = (x : ℕ) (p : PointValue) (r : LeafRow) → IsIn (published_items v) (x, p) → IsIn v.leaves r → IsTrue (contains r.cube p)
    → StandsIn facts r.list (chunks_of r) x

-- the lists of all leaves of a version are open
abbrev pub AreOpen : WorldVersion → List Leaf → Type 0
AreOpen v lists = (r : LeafRow) (a : Leaf) → IsIn v.leaves r → IsAt lists r.list a → a.stage ≡ Open

-- the leaves of a version are those of the octree of its points, and its item numbers have 32 bits
pub record IsVersion (job : JobValue) (v : WorldVersion) : Type 0 where
  pub nodes : map leaf_node v.leaves ≡ leaves job.config.leaf job.config.cube (points_in v)
  pub small : (x : ℕ) (p : PointValue) → IsIn (published_items v) (x, p) → x < 2 ^ 32

-- the version is that of the whole journal; its lists are open, and the owner knows where all its items are
pub record IsCurrent (job : JobValue) (w : World) : Type 0 where
  pub version : IsVersion job w.version
  pub whole : entries w.version ≡ journal w.events
  pub opened : AreOpen w.version w.lists.owner.book.leaves
  pub covers : Covers w.version w.lists.owner.facts

-- the rule of the lists holds, and the version is current while nobody holds the turn
pub record IsStored (job : JobValue) (w : World) : Type 0 where
  pub sound : IsSound w.lists
  pub current : is_free w ≡ true → IsCurrent job w

-- whether a loader is between the first shut of a publication and its commit
abbrev pub is_sweeping : LoaderPlace → Bool
is_sweeping admits = false
is_sweeping clears_first = false
is_sweeping (links ls) = false
is_sweeping leaves_admitted = false
is_sweeping leaves_refused = false
is_sweeping (files f) = false
is_sweeping (clears_again f) = false
is_sweeping (leaves_unpublished f) = false
is_sweeping (gives_back f) = false
is_sweeping (shuts f ls) = true
is_sweeping (marks f l found ls) = true
is_sweeping (moves f items ls) = true
is_sweeping (places f items) = true
is_sweeping (commits f) = true
is_sweeping leaves_published = false

-- whether an actor is
abbrev pub is_sweeper : Option Actor → Bool
is_sweeper None = false
is_sweeper (Some (loader bs place)) = is_sweeping place
is_sweeper (Some (viewer n place)) = false
