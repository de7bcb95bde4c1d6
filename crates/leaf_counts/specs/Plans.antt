-- What a batch does to a skeleton, made ready.
use Rattle.std.specs.Prelude.{ℕ, ◌≡◌, ◌+◌, ◌<◌, ◌^◌, List, length, map, filter, not, All}
use Rattle.cube_math.specs.Points.{PointValue}
use Rattle.octree_model.specs.Bags.{IsSameBag}
use Rattle.octree_model.specs.Octree.{inside}
use Rattle.leaf_counts.specs.declared.counts.Counts.{Counts}
use Rattle.leaf_counts.specs.declared.growth.Growth.{Growth}
use Rattle.leaf_counts.specs.declared.plan.PlanRefusal.{PlanRefusal}
use Rattle.leaf_counts.specs.declared.plan.PlanRefusal.TheVariants.{NodesFull, Memory}
use Rattle.leaf_counts.specs.declared.plan.Spill.{Spill}
use Rattle.leaf_counts.specs.Growths.{grown}
use Rattle.leaf_counts.specs.Nodes.{is_inner_at, is_leaf_at, cube_at, node_total}
use Rattle.leaf_counts.specs.Overfull.{overfull}
use Rattle.leaf_counts.specs.Paths.{inner_paths, leaf_paths}
use Rattle.leaf_counts.specs.Skeletons.{SkeletonValue, skeleton_of}

-- a plan as contracts see it: how the counts change, the number of nodes then, and the paths of the new inner nodes and of the new leaves
pub record PlanValue : Type 0 where
  pub growth : Growth
  pub nodes : ℕ
  pub splits : List (List ℕ)
  pub leaves : List (List ℕ)

-- the inner nodes that were no inner nodes before, in path order
abbrev pub new_inner : Counts → Counts → List (List ℕ)
new_inner before after = filter (λ path. not (is_inner_at before path)) (inner_paths after)

-- the leaves that were no leaves before, in path order
abbrev pub new_leaves : Counts → Counts → List (List ℕ)
new_leaves before after = filter (λ path. not (is_leaf_at before path)) (leaf_paths after)

-- a skeleton as a plan will have it
abbrev pub planned : SkeletonValue → PlanValue → SkeletonValue
planned skeleton plan = record skeleton { counts = grown plan.growth skeleton.counts }

-- the plan is of this skeleton: it will be the skeleton of some list of fewer than 2 ^ 32 points, with so many nodes
pub record IsPlanOf (skeleton : SkeletonValue) (plan : PlanValue) : Type 0 where
  pub points : List PointValue
  pub few : length points < 2 ^ 32
  pub is : planned skeleton plan ≡ skeleton_of skeleton.leaf skeleton.cube points
  pub total : plan.nodes ≡ node_total (planned skeleton plan).counts

-- these are all points of a skeleton, and with the batch's fewer than 2 ^ 32; and the spills are the leaves that the batch
-- makes over-full, in path order, each with the leaf's points in some order
pub record IsPublished (skeleton : SkeletonValue) (batch : List PointValue) (spills : List Spill) (points : List PointValue) : Type 0 where
  pub is : skeleton ≡ skeleton_of skeleton.leaf skeleton.cube points
  pub few : length points + length batch < 2 ^ 32
  pub paths : map (λ spill. spill.path) spills ≡ overfull skeleton.leaf skeleton.cube skeleton.counts batch
  pub bags : All (λ spill. IsSameBag spill.points.items (inside (cube_at skeleton.cube spill.path) points)) spills

-- some points are all those of a skeleton
pub record HasSpills (skeleton : SkeletonValue) (batch : List PointValue) (spills : List Spill) : Type 0 where
  pub points : List PointValue
  pub published : IsPublished skeleton batch spills points

-- a refusal for too many nodes: so many of a tree, which are more than the bound
abbrev pub IsRefused : PlanRefusal → ℕ → ℕ → Type 0
IsRefused (NodesFull need bound) all most = (need ≡ all) × (bound ≡ most) × (most < all)
IsRefused Memory all most = Unit {0}
