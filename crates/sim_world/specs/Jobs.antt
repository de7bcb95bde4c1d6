-- What a world is made with.
use Rattle.std.specs.Prelude.{ℕ, ◌%◌, ◌==◌, List, filter}
use Rattle.cube_math.specs.Batches.{BatchValue}
use Rattle.cube_math.specs.declared.config.Config.{Config}
use Rattle.picture_model.specs.Cameras.{CameraValue}

-- the bounds of the store, the batches in the order of their inputs, how many loaders and viewers there are, how many frames
-- each viewer makes, and the camera of all frames
pub record JobValue : Type 0 where
  pub config : Config
  pub batches : List BatchValue
  pub loaders : ℕ
  pub viewers : ℕ
  pub frames : ℕ
  pub camera : CameraValue

-- the batches of a loader: the loaders take turns
abbrev pub batches_of : JobValue → ℕ → List BatchValue
batches_of job k = filter (λ (b : BatchValue). b.input % job.loaders == k) job.batches
