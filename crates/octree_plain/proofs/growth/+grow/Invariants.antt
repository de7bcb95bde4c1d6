use Rattle.std.proofs.Common.{◌≡◌, ◌≤◌, map, drop, vec_items, []}
use Rattle.cube_math.specs.Cubes.{child}
use Rattle.octree_model.specs.Numbers.{up_to}
use Rattle.octree_model.specs.Octree.{octree, inside}
use Rattle.std.specs.Cow.{cow_slice_items}
use Rattle.octree_plain.proofs.growth.+grow.Given as goal

abbrev pub decreases-grow : goal.decreases-grow
decreases-grow l = l.cube.bits

abbrev pub invariant-loop-list : goal.invariant-loop-list
invariant-loop-list l =
    record {
      below : l.g ≤ 8;
      between : l.sampler ≡ [];
      rest : map vec_items l.list-iterator.rest.items ≡ drop l.g (map (λ g. inside (child l.cube g) (cow_slice_items l.fn.points)) (up_to 8));
      grown : l.trees.items ≡ map (λ g. octree l.leaf (child l.cube g) (cow_slice_items l.fn.points)) (up_to l.g);
    }
