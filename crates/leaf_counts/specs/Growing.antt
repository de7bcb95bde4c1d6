-- A node while a batch is planned.
use Rattle.std.specs.Prelude.{ℕ, ◌≡◌, ◌+◌, ◌<◌, ◌^◌, List, ◌++◌, length, map, drop, All}
use Rattle.cube_math.specs.Points.{PointValue}
use Rattle.cube_math.specs.Cubes.{CubeValue}
use Rattle.octree_model.specs.Bags.{IsSameBag}
use Rattle.octree_model.specs.Octree.{inside, octree}
use Rattle.leaf_counts.specs.declared.counts.Counts.{Counts}
use Rattle.leaf_counts.specs.declared.growth.Growth.{Growth}
use Rattle.leaf_counts.specs.declared.plan.Spill.{Spill}
use Rattle.leaf_counts.specs.declared.progress.Progress.{Progress}
use Rattle.leaf_counts.specs.Growths.{grown}
use Rattle.leaf_counts.specs.Nodes.{counted, cube_at}
use Rattle.leaf_counts.specs.Overfull.{overfull}
use Rattle.leaf_counts.specs.Plans.{new_inner, new_leaves}

-- the node that these points and this batch meet below a root: the batch's part in its cube, and the spills, of which those
-- behind the used ones begin with those of the leaves from this node on
pub record IsGrowing (root : CubeValue) (points batch : List PointValue) (leaf : ℕ) (path : List ℕ) (cube : CubeValue) (counts : Counts) (part : List PointValue) (spills : List Spill) (used : ℕ) : Type 0 where
  pub at : cube ≡ cube_at root path
  pub is : counts ≡ counted (octree leaf cube points)
  pub within : inside cube batch ≡ part
  pub few : length points + length batch < 2 ^ 32
  pub bags : All (λ spill. IsSameBag spill.points.items (inside (cube_at root spill.path) points)) spills
  pub rest : List (List ℕ)
  pub next : map (λ spill. spill.path) (drop used spills) ≡ map (λ steps. path ++ steps) (overfull leaf cube counts batch) ++ rest

-- some points and some batch meet it
pub record CanGrow (leaf : ℕ) (path : List ℕ) (cube : CubeValue) (counts : Counts) (part : List PointValue) (spills : List Spill) (used : ℕ) : Type 0 where
  pub root : CubeValue
  pub points : List PointValue
  pub batch : List PointValue
  pub growing : IsGrowing root points batch leaf path cube counts part spills used

-- what these points and this batch make of the node, and what is named by then
pub record IsGrown (points batch : List PointValue) (leaf : ℕ) (path : List ℕ) (cube : CubeValue) (counts : Counts) (old new : Progress) (growth : Growth) : Type 0 where
  pub after : grown growth counts ≡ counted (octree leaf cube (points ++ batch))
  pub used : new.used ≡ old.used + length (overfull leaf cube counts batch)
  pub splits : new.splits.items ≡ old.splits.items ++ map (λ steps. path ++ steps) (new_inner counts (counted (octree leaf cube (points ++ batch))))
  pub leaves : new.leaves.items ≡ old.leaves.items ++ map (λ steps. path ++ steps) (new_leaves counts (counted (octree leaf cube (points ++ batch))))
