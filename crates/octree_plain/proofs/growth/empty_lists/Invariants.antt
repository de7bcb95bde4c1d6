use Rattle.std.proofs.Common.{◌≡◌, map, vec_items, replicate, []}
use Rattle.octree_plain.proofs.growth.empty_lists.Given as goal

abbrev pub invariant-loop-octant : goal.invariant-loop-octant
invariant-loop-octant l = map vec_items l.lists.items ≡ replicate l.octant []
