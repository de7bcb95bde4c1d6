-- The octree of a record's journal: its leaves by their paths, and how many points lie in them.
use Rattle.std.specs.Prelude.{ℕ, Bool, List, [], ◌∷◌, ◌++◌, filter, length, not}
use Rattle.cube_math.specs.Points.{PointValue}
use Rattle.cube_math.specs.Cubes.{cube_at}
use Rattle.octree_model.specs.Octree.{octree, inside}
use Rattle.leaf_counts.specs.declared.counts.Counts.{Counts}
use Rattle.leaf_counts.specs.Nodes.{counted, is_leaf_at}
use Rattle.leaf_counts.specs.Paths.{leaf_paths}
use Rattle.leaf_counts.specs.Plans.{new_leaves}
use Rattle.record_model.specs.Records.{Record, published}
use Rattle.cube_math.specs.declared.config.Config.{Config}
use Rattle.record_model.specs.declared.event.Event.{Event}

-- the nodes with their counts, once these points are published
abbrev pub counts_of : Config → List PointValue → Counts
counts_of config points = counted (octree config.leaf config.cube points)

-- whether the path leads to a leaf, once these points are published
abbrev pub is_leaf_of : Config → List PointValue → List ℕ → Bool
is_leaf_of config points path = is_leaf_at (counts_of config points) path

-- the leaves of the octree of the journal, by their paths, in path order
abbrev pub leaves : Config → Record → List (List ℕ)
leaves config events = leaf_paths (counts_of config (published events))

-- how many of some points lie in the cube of a path
abbrev pub number_in : Config → List ℕ → List PointValue → ℕ
number_in config path points = length (inside (cube_at config.cube path) points)

-- the leaves that an event makes: those behind it that were none before
abbrev pub made_leaves : Config → Record → Event × ℕ → List (List ℕ)
made_leaves config events e = new_leaves (counts_of config (published events)) (counts_of config (published (events ++ e ∷ [])))

-- the leaves that an event splits: those before it that are none behind it
abbrev pub split_leaves : Config → Record → Event × ℕ → List (List ℕ)
split_leaves config events e = filter (λ path. not (is_leaf_of config (published (events ++ e ∷ [])) path)) (leaves config events)
