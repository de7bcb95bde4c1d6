-- What a turn decides: whether a batch is admitted, and whether it is published.
use Rattle.std.specs.Prelude.{ℕ, ◌+◌, nat_lt, List, ◌++◌, length, Option, Some, None, if◌then◌else◌}
use Rattle.cube_math.specs.Points.{PointValue}
use Rattle.cube_math.specs.Batches.{BatchValue}
use Rattle.cube_math.specs.declared.refused.Cause.{Cause}
use Rattle.cube_math.specs.declared.refused.Cause.TheVariants.{Points, Chunks, Nodes}
use Rattle.chunk_needs.specs.Limits.{nodes_of}
use Rattle.chunk_needs.specs.Needs.{need}
use Rattle.record_model.specs.Records.{journal, published}
use Rattle.record_model.specs.Admissions.{admitted}
use Rattle.record_model.specs.declared.event.Event.{Event}
use Rattle.record_model.specs.declared.event.Event.TheVariants.{Admission, Publication}
use Rattle.sim_world.specs.Chunks.{free_chunks, held_chunks}
use Rattle.sim_world.specs.Jobs.{JobValue}
use Rattle.sim_world.specs.Worlds.{World}

-- the length of the journal
abbrev pub length_now : World → ℕ
length_now w = length (journal w.events)

-- too few chunks are free for an event of the actor a
abbrev pub chunks_cause : JobValue → World → Event × ℕ → Option Cause
chunks_cause job w e =
    let due = need job.config w.events e in
    let free = length (free_chunks job.config.chunks w.lists) in
    if nat_lt free due then Some (Chunks (length_now w) due free (held_chunks w.lists)) else None

-- why the admission of a batch is refused
abbrev pub admission_cause : JobValue → World → ℕ → BatchValue → Option Cause
admission_cause job w a b =
    let had = admitted w.events in
    if nat_lt job.config.points (had + length b.points) then Some (Points (length_now w) had (length b.points) job.config.points)
    else chunks_cause job w (Admission b.input b.points, a)

-- the points that are published once the batch is
abbrev pub published_with : World → BatchValue → List PointValue
published_with w b = published w.events ++ b.points

-- why its publication is refused
abbrev pub publication_cause : JobValue → World → ℕ → BatchValue → Option Cause
publication_cause job w a b =
    let all = nodes_of job.config (published_with w b) in
    if nat_lt job.config.nodes all then Some (Nodes (length_now w) all job.config.nodes)
    else chunks_cause job w (Publication b.input b.points, a)
