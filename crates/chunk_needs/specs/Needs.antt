-- The chunks that a record needs.
use Rattle.std.specs.Prelude.{ℕ, ◌+◌, ◌-◌, List, [], ◌∷◌, ◌++◌, sum_by}
use Rattle.chunk_pool.specs.Amounts.{chunks_for}
use Rattle.cube_math.specs.Points.{PointValue}
use Rattle.record_model.specs.Records.{Record}
use Rattle.cube_math.specs.declared.config.Config.{Config}
use Rattle.record_model.specs.declared.event.Event.{Event}
use Rattle.record_model.specs.declared.event.Event.TheVariants.{Admission, Publication, Look}
use Rattle.chunk_needs.specs.Leaves.{leaves, made_leaves, number_in}
use Rattle.chunk_needs.specs.Slots.{granted, owned}

-- the chunks of the list of a leaf: those for the slots that were granted, and those for the slots that it owns
abbrev pub leaf_chunks : Config → Record → List ℕ → ℕ
leaf_chunks config events path = chunks_for (granted config events path) + chunks_for (owned config events path)

-- the chunks of the lists of all leaves
abbrev pub live : Config → Record → ℕ
live config events = sum_by (leaf_chunks config events) (leaves config events)

-- the chunks that an event would take behind a record: an admission those by which the lists of the leaves grow, a publication
-- those for the slots that the leaves own which it makes, and a look none
abbrev pub need : Config → Record → Event × ℕ → ℕ
need config events (Admission input points, loader) = live config (events ++ (Admission input points, loader) ∷ []) - live config events
need config events (Publication input points, loader) =
    sum_by (λ path. chunks_for (owned config (events ++ (Publication input points, loader) ∷ []) path)) (made_leaves config events (Publication input points, loader))
need config events (Look, loader) = 0

-- the chunks that events took, one event after the other behind a record
abbrev pub taken_behind : Config → Record → Record → ℕ
taken_behind config before [] = 0
taken_behind config before (e ∷ events) = need config before e + taken_behind config (before ++ e ∷ []) events

-- the chunks that a record ever took
abbrev pub taken : Config → Record → ℕ
taken config events = taken_behind config [] events

-- the chunks that some points add to a leaf's list when they are admitted
abbrev pub more_chunks : Config → Record → List PointValue → List ℕ → ℕ
more_chunks config events points path = chunks_for (granted config events path + number_in config path points) - chunks_for (granted config events path)
