use Rattle.std.proofs.Common.{◌≡◌, ◌≤◌, ◌++◌, ◌∷◌, [], drop, map, vec_items}
use Rattle.cube_math.specs.Cubes.{child}
use Rattle.octree_model.specs.Numbers.{up_to}
use Rattle.octree_model.specs.Octree.{inside}
use Rattle.leaf_counts.specs.Paths.{inner_paths, leaf_paths, paths_below}
use Rattle.leaf_counts.proofs.CountLaws.{counts_of}
use Rattle.leaf_counts.proofs.splitting.+split.Given as goal

abbrev pub decreases-split : goal.decreases-split
decreases-split l = l.cube.bits

abbrev pub invariant-loop-list : goal.invariant-loop-list
invariant-loop-list l = record {
  below : l.g ≤ 8;
  used : l.progress.used ≡ l.fn.progress.used;
  rest : map vec_items l.list-iterator.rest.items ≡ drop l.g (map (λ g. inside (child l.cube g) l.fn.points.items) (up_to 8));
  made : l.children.items ≡ map (λ g. counts_of l.leaf (child l.cube g) l.fn.points.items) (up_to l.g);
  splits : l.progress.splits.items ≡ l.fn.progress.splits.items ++ map (λ steps. l.path ++ steps) ([] ∷ paths_below 0 (map inner_paths l.children.items));
  leaves : l.progress.leaves.items ≡ l.fn.progress.leaves.items ++ map (λ steps. l.path ++ steps) (paths_below 0 (map leaf_paths l.children.items));
}
