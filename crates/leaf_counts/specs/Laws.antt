-- Batches, committed one after the other.
use Rattle.std.specs.Prelude.{◌≡◌, ◌+◌, ◌<◌, ◌^◌, List, [], ◌∷◌, ◌++◌, length, map, All}
use Rattle.cube_math.specs.Points.{PointValue}
use Rattle.octree_model.specs.Bags.{IsSameBag, joined}
use Rattle.octree_model.specs.Octree.{inside}
use Rattle.leaf_counts.specs.declared.plan.Spill.{Spill}
use Rattle.leaf_counts.specs.Nodes.{cube_at}
use Rattle.leaf_counts.specs.Overfull.{overfull}
use Rattle.leaf_counts.specs.Plans.{PlanValue, IsPublished, planned}
use Rattle.leaf_counts.specs.Skeletons.{SkeletonValue, skeleton_of}

-- a batch's points, the spills that it was planned with, and the plan
pub record Commit : Type 0 where
  pub batch : List PointValue
  pub spills : List Spill
  pub plan : PlanValue

-- the skeleton after these commits
abbrev pub skeleton_after : SkeletonValue → List Commit → SkeletonValue
skeleton_after skeleton [] = skeleton
skeleton_after skeleton (commit ∷ others) = skeleton_after (planned skeleton commit.plan) others

-- the spills are the over-full leaves with their points, of all points so far, and the plan is one that planning gives
pub record IsDue (skeleton : SkeletonValue) (points : List PointValue) (commit : Commit) : Type 0 where
  pub few : length points + length commit.batch < 2 ^ 32
  pub paths : map (λ spill. spill.path) commit.spills ≡ overfull skeleton.leaf skeleton.cube skeleton.counts commit.batch
  pub bags : All (λ spill. IsSameBag spill.points.items (inside (cube_at skeleton.cube spill.path) points)) commit.spills
  pub answer : (all : List PointValue) → IsPublished skeleton commit.batch commit.spills all → planned skeleton commit.plan ≡ skeleton_of skeleton.leaf skeleton.cube (all ++ commit.batch)

-- each commit is due when it comes
abbrev pub AreDue : SkeletonValue → List PointValue → List Commit → Type 0
AreDue skeleton points [] = Unit {0}
AreDue skeleton points (commit ∷ others) = IsDue skeleton points commit × AreDue (planned skeleton commit.plan) (points ++ commit.batch) others

-- the points of all batches
abbrev pub all_points : List Commit → List PointValue
all_points commits = joined (map (λ commit. commit.batch) commits)
