use Rattle.std.proofs.Common.{List}
use Rattle.cube_math.specs.Points.{PointValue}
use Rattle.cube_math.specs.Cubes.{CubeValue}
use Rattle.leaf_counts.specs.Growing.{IsGrowing}
use Rattle.leaf_counts.proofs.GrowLaws.{IsHalfGrown}
use Rattle.leaf_counts.proofs.growing.+grow.Given as goal

abbrev pub decreases-grow : goal.decreases-grow
decreases-grow l = l.cube.bits

abbrev pub invariant-loop-g : goal.invariant-loop-g
invariant-loop-g l =
    (root : CubeValue) (before batch : List PointValue) → IsGrowing root before batch l.leaf l.path l.cube l.counts l.points l.spills l.fn.progress.used
    → IsHalfGrown before batch l.leaf l.path l.cube l.counts l.below-items l.spills l.fn.progress l.progress l.growths.items l.places.items l.g
