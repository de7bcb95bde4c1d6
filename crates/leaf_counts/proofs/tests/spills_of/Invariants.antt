use Rattle.std.proofs.Common.{◌≡◌, map, take}
use Rattle.std.specs.List.{All}
use Rattle.octree_model.specs.Bags.{IsSameBag}
use Rattle.octree_model.specs.Octree.{inside}
use Rattle.leaf_counts.specs.Nodes.{cube_at}
use Rattle.leaf_counts.proofs.tests.spills_of.Given as goal

abbrev pub invariant-loop-path : goal.invariant-loop-path
invariant-loop-path l = record {
  paths : map (λ spill. spill.path) l.spills.items ≡ take l.path-index l.paths;
  bags : All (λ spill. IsSameBag spill.points.items (inside (cube_at l.cube spill.path) l.points)) l.spills.items;
}
