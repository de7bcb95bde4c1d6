use Rattle.std.proofs.Common.{◌≡◌, map, vec_items, take}
use Rattle.cube_math.specs.Cubes.{child}
use Rattle.octree_model.specs.Numbers.{up_to}
use Rattle.octree_model.specs.Octree.{inside}
use Rattle.octree_plain.proofs.growth.spread_counted.Given as goal

abbrev pub invariant-loop-p : goal.invariant-loop-p
invariant-loop-p l = map vec_items l.lists.items ≡ map (λ g. inside (child l.cube g) (take l.p-index l.points)) (up_to 8)
