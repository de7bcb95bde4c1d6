use Rattle.std.proofs.Common.{IsTrue, take}
use Rattle.std.specs.List.{All}
use Rattle.cube_math.specs.Cubes.{contains}
use Rattle.octree_file.specs.Order.{IsPoint}
use Rattle.octree_reader.proofs.opening.are_within.Given as goal

abbrev pub invariant-loop-p : goal.invariant-loop-p
invariant-loop-p l = record {
  points : All IsPoint (take l.p-index l.points);
  within : All (λ p. IsTrue (contains l.cube p)) (take l.p-index l.points);
}
