use Rattle.std.proofs.Common.{◌≡◌, ℕ, List, map, take, IsTrue}
use Rattle.std.specs.List.{All}
use Rattle.cube_math.specs.Cubes.{CubeValue}
use Rattle.cube_math.specs.Points.{PointValue}
use Rattle.leaf_counts.specs.Nodes.{cube_at, counted, is_leaf_at}
use Rattle.octree_model.specs.Bags.{IsSameBag}
use Rattle.octree_model.specs.Octree.{inside, octree}
use Rattle.batch_levels.specs.Levels.{level_of}
use Rattle.batch_levels.proofs.spilling.spills_of.Given as goal

abbrev pub invariant-loop-path : goal.invariant-loop-path
invariant-loop-path l = record {
  paths : map (λ spill. spill.path) l.spills.items ≡ take l.path-index l.paths;
  bags : (leaf : ℕ) (cube : CubeValue) (points : List PointValue) → l.root ≡ level_of leaf cube points → All (λ path. IsTrue (is_leaf_at (counted (octree leaf cube points)) path)) l.paths
      → All (λ spill. IsSameBag spill.points.items (inside (cube_at cube spill.path) points)) l.spills.items;
}
