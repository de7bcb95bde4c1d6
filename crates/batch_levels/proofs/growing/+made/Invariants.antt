use Rattle.std.proofs.Common.{◌≡◌, ◌≤◌, map, drop, vec_items}
use Rattle.cube_math.specs.Cubes.{child}
use Rattle.octree_model.specs.Numbers.{up_to}
use Rattle.octree_model.specs.Octree.{inside}
use Rattle.batch_levels.specs.Levels.{level_of}
use Rattle.batch_levels.proofs.growing.+made.Given as goal

abbrev pub decreases-made : goal.decreases-made
decreases-made l = l.cube.bits

abbrev pub invariant-loop-list : goal.invariant-loop-list
invariant-loop-list l = record {
  below : l.g ≤ 8;
  rest : map vec_items l.list-iterator.rest.items ≡ drop l.g (map (λ g. inside (child l.cube g) l.fn.points) (up_to 8));
  made : l.levels.items ≡ map (λ g. level_of l.leaf (child l.cube g) l.fn.points) (up_to l.g);
}
