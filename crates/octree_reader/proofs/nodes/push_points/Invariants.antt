use Rattle.std.proofs.Common.{ℕ, ◌≡◌, List, ◌++◌, length, flat_map}
use Rattle.std.specs.List.{All}
use Rattle.cube_math.specs.Points.{PointValue}
use Rattle.octree_file.specs.Order.{IsPoint}
use Rattle.octree_file.specs.Spelling.{point_bytes}
use Rattle.octree_reader.proofs.NodeLaws.{PointsLeft}
use Rattle.octree_reader.proofs.nodes.push_points.Given as goal

abbrev pub invariant-loop-k : goal.invariant-loop-k
invariant-loop-k l = (more : List PointValue) (rest : List ℕ) → All IsPoint more → length more ≡ l.count → l.bytes ≡ flat_map point_bytes more ++ rest
    → PointsLeft l.bytes l.k l.count l.points.items (l.fn.points.items ++ more) rest
