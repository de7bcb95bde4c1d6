use Rattle.std.proofs.Common.{◌≡◌, ◌≤◌, length, map, take}
use Rattle.cube_math.specs.Cubes.{cell, child}
use Rattle.octree_model.specs.Numbers.{ascending, up_to}
use Rattle.octree_model.specs.Octree.{inside}
use Rattle.octree_plain.specs.Sampling.{HasLeastKeys}
use Rattle.octree_plain.proofs.sampling.find_cells.Given as goal

abbrev pub invariant-loop-p : goal.invariant-loop-p
invariant-loop-p l = record {
  counted : l.octants ≡ map (λ g. length (inside (child l.cube g) (take l.p-index l.points))) (up_to 8);
  found : l.cells ≡ ascending (map (cell l.cube) (take l.p-index l.points));
  few : length l.keys.items ≤ length l.cells;
  least : HasLeastKeys l.cube (take l.p-index l.points) l.places l.keys.items;
}
