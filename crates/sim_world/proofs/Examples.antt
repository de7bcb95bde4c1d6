-- A small world of two loaders and one viewer, and what the definitions say of it.
use Rattle.std.proofs.Common.{◌≡◌, ℕ, false, List, [], ◌∷◌, length, refl}
use Rattle.std.specs.Prelude.{Some, pos}
use Rattle.cube_math.specs.Batches.{BatchValue}
use Rattle.cube_math.specs.Cubes.{CubeValue}
use Rattle.cube_math.specs.Points.{PointValue}
use Rattle.picture_model.specs.Cameras.{CameraValue}
use Rattle.record_model.specs.declared.event.Event.TheVariants.{Look}
use Rattle.sim_world.specs.Filings.{walk_of, walk_on, tasks_from}
use Rattle.sim_world.specs.Jobs.{JobValue, batches_of}
use Rattle.sim_world.specs.Publications.{rows_for}
use Rattle.sim_world.specs.Steps.{step, run}
use Rattle.sim_world.specs.Versions.{LeafRow, no_chains}
use Rattle.sim_world.specs.Worlds.{Walk, opening_world}

abbrev point : ℕ → PointValue
point x = record { x = pos x; y = pos 0; z = pos 0; rgb = 0 }

abbrev cube : ℕ → ℕ → CubeValue
cube x bits = record { ox = pos x; oy = pos 0; oz = pos 0; bits = bits }

abbrev batch : ℕ → BatchValue
batch input = record { input = input; points = point input ∷ []; cube = cube 0 8; most = 1 }

abbrev job : CameraValue → JobValue
job camera = record {
  config = record { cube = cube 0 8; leaf = 1; nodes = 20; points = 10; chunks = 4; batch = 1 };
  batches = batch 0 ∷ batch 1 ∷ batch 2 ∷ [];
  loaders = 2;
  viewers = 1;
  frames = 1;
  camera = camera;
}

-- loaders take turns with the batches
first_and_third : (camera : CameraValue) → batches_of (job camera) 0 ≡ batch 0 ∷ batch 2 ∷ []
first_and_third camera = refl

second : (camera : CameraValue) → batches_of (job camera) 1 ≡ batch 1 ∷ []
second camera = refl

-- the actors are numbered loaders first, and a step of a number beyond them changes nothing
three_actors : (camera : CameraValue) → length (opening_world (job camera)).actors ≡ 3
three_actors camera = refl

nobody_there : (camera : CameraValue) → run (job camera) (3 ∷ []) ≡ opening_world (job camera)
unfolding step
nobody_there camera = refl

-- the viewer enters and looks
viewer_holds_the_turn : (camera : CameraValue) → (run (job camera) (2 ∷ [])).holder ≡ Some 2
unfolding step
viewer_holds_the_turn camera = refl

look_is_noted : (camera : CameraValue) → (run (job camera) (2 ∷ [])).events ≡ (Look, 2) ∷ []
unfolding step
look_is_noted camera = refl

-- meanwhile no loader enters
loader_is_blocked : (camera : CameraValue) → run (job camera) (2 ∷ 0 ∷ 1 ∷ []) ≡ run (job camera) (2 ∷ [])
unfolding step
loader_is_blocked camera = refl

-- a leaf that stays keeps its list, and a new one gets the next number
abbrev lower : LeafRow
lower = record { path = 0 ∷ []; cube = cube 0 7; list = 1; chains = record { claimed = 3 ∷ []; owned = [] } }

abbrev upper : LeafRow
upper = record { path = 1 ∷ []; cube = cube 128 7; list = 4; chains = no_chains }

one_leaf_stays : rows_for (lower ∷ []) 4
    (record { path = 0 ∷ []; cube = cube 0 7; inner = false } ∷ record { path = 1 ∷ []; cube = cube 128 7; inner = false } ∷ []) ≡ lower ∷ upper ∷ []
one_leaf_stays = refl

-- each point goes to the list of its leaf
tasks_go_to_their_leaves : tasks_from (lower ∷ upper ∷ []) 7 (point 130 ∷ point 2 ∷ []) ≡ record { item = 7; list = 4 } ∷ record { item = 8; list = 1 } ∷ []
tasks_go_to_their_leaves = refl

-- a filing that reads a link knows one chunk more of that list alone
abbrev walks : List Walk
walks = record { list = 1; chunks = 3 ∷ [] } ∷ record { list = 4; chunks = [] } ∷ []

one_chunk_more : walk_of (walk_on walks 1 2) 1 ≡ 3 ∷ 2 ∷ []
one_chunk_more = refl

no_chunk_more : walk_of (walk_on walks 1 2) 4 ≡ []
no_chunk_more = refl
