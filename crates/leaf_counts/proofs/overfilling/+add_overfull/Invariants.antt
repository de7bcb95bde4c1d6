use Rattle.std.proofs.Common.{◌≡◌, ◌++◌, List, drop, map}
use Rattle.cube_math.specs.Points.{PointValue}
use Rattle.octree_model.specs.Octree.{inside}
use Rattle.leaf_counts.specs.Overfull.{is_overfull, overfull}
use Rattle.leaf_counts.specs.Paths.{leaf_paths}
use Rattle.leaf_counts.proofs.PathLaws.{picked}
use Rattle.leaf_counts.proofs.overfilling.+add_overfull.Given as goal

abbrev pub decreases-add_overfull : goal.decreases-add_overfull
decreases-add_overfull l = l.cube.bits

abbrev pub invariant-loop-g : goal.invariant-loop-g
invariant-loop-g l =
    (batch : List PointValue) → inside l.cube batch ≡ l.points
    → l.paths.items ++ map (λ steps. l.path ++ steps) (picked (is_overfull l.leaf l.cube l.counts batch) leaf_paths l.g (drop l.g l.below-items))
    ≡ l.fn.paths.items ++ map (λ steps. l.path ++ steps) (overfull l.leaf l.cube l.counts batch)
