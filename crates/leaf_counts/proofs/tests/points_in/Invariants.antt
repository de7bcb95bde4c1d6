use Rattle.std.proofs.Common.{◌≡◌, take}
use Rattle.octree_model.specs.Octree.{inside}
use Rattle.leaf_counts.proofs.tests.points_in.Given as goal

abbrev pub invariant-loop-p : goal.invariant-loop-p
invariant-loop-p l = l.list.items ≡ inside l.cube (take l.p-index l.points)
