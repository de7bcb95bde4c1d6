-- The limits that a record keeps.
use Rattle.std.specs.Prelude.{ℕ, ◌≤◌, List}
use Rattle.cube_math.specs.Points.{PointValue}
use Rattle.octree_model.specs.Counts.{nodes}
use Rattle.octree_model.specs.Octree.{octree}
use Rattle.record_model.specs.Admissions.{admitted}
use Rattle.record_model.specs.Records.{Record, published}
use Rattle.cube_math.specs.declared.config.Config.{Config}

-- the number of nodes, once these points are published
abbrev pub nodes_of : Config → List PointValue → ℕ
nodes_of config points = nodes (octree config.leaf config.cube points)

-- no more points were admitted, and the octree of the journal has no more nodes, than the bounds say
pub record IsWithin (config : Config) (events : Record) : Type 0 where
  pub points : admitted events ≤ config.points
  pub nodes : nodes_of config (published events) ≤ config.nodes
