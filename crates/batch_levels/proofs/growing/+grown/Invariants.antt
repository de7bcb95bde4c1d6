use Rattle.std.proofs.Common.{◌≡◌, ◌≤◌, ◌++◌, List, map, drop, vec_items}
use Rattle.cube_math.specs.Cubes.{child}
use Rattle.cube_math.specs.Points.{PointValue}
use Rattle.octree_model.specs.Numbers.{up_to}
use Rattle.octree_model.specs.Octree.{inside}
use Rattle.batch_levels.specs.Levels.{level_of}
use Rattle.batch_levels.proofs.growing.+grown.Given as goal

abbrev pub decreases-grown : goal.decreases-grown
decreases-grown l = l.cube.bits

abbrev pub invariant-loop-list : goal.invariant-loop-list
invariant-loop-list l = record {
  below : l.g ≤ 8;
  rest : map vec_items l.list-iterator.rest.items ≡ drop l.g (map (λ g. inside (child l.cube g) l.points) (up_to 8));
  grown : (before : List PointValue) → l.fn.level ≡ level_of l.leaf l.cube before
      → l.levels ≡ drop l.g (map (λ g. level_of l.leaf (child l.cube g) (inside l.cube before)) (up_to 8)) ++ map (λ g. level_of l.leaf (child l.cube g) (inside l.cube before ++ l.points)) (up_to l.g);
}
