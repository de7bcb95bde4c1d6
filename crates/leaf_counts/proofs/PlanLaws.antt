-- What a plan holds.
use Rattle.std.proofs.Common.{◌≡◌, ℕ, ◌+◌, ◌-◌, ◌*◌, ◌<◌, ◌^◌, List, [], ◌++◌, map, length, drop, ap, ◌∙◌, sym, refl, arith, IsTrue}
use Rattle.std.specs.List.{All}
use Rattle.std.proofs.lemmas.List.{append-nil, length-append}
use Rattle.cube_math.specs.Points.{PointValue}
use Rattle.cube_math.specs.Cubes.{FitsSpace, contains}
use Rattle.octree_model.specs.Counts.{nodes}
use Rattle.octree_model.specs.Octree.{octree}
use Rattle.octree_model.proofs.OctreeLaws.{all_inside}
use Rattle.octree_plain.proofs.NodeLaws.{nodes_fit}
use Rattle.leaf_counts.specs.declared.counts.Counts.{Counts}
use Rattle.leaf_counts.specs.declared.growth.Growth.{Growth}
use Rattle.leaf_counts.specs.declared.plan.Spill.{Spill}
use Rattle.leaf_counts.specs.declared.progress.Progress.{Progress}
use Rattle.leaf_counts.specs.Growing.{IsGrowing, IsGrown}
use Rattle.leaf_counts.specs.Growths.{grown}
use Rattle.leaf_counts.specs.Nodes.{node_total}
use Rattle.leaf_counts.specs.Overfull.{overfull}
use Rattle.leaf_counts.specs.Plans.{IsPublished, IsPlanOf, PlanValue, planned, new_inner, new_leaves}
use Rattle.leaf_counts.specs.Skeletons.{SkeletonValue, skeleton_of}
use Rattle.leaf_counts.proofs.CountLaws.{counts_of, counted_is}
use Rattle.leaf_counts.proofs.PathLaws.{from_root, named_from_root}
use Rattle.leaf_counts.proofs.TotalLaws.{total_at, total_after}

-- the root meets the points and the batch
pub root_growing : (s : SkeletonValue) (batch part : List PointValue) (spills : List Spill) (used : ℕ) (points : List PointValue) → IsPublished s batch spills points → All (λ p. IsTrue (contains s.cube p)) batch → part ≡ batch → used ≡ 0
    → IsGrowing s.cube points batch s.leaf [] s.cube s.counts part spills used
root_growing s batch part spills used points published contained whole none = record {
  at = refl;
  is = ap (λ (x : SkeletonValue). x.counts) published.is;
  within = all_inside s.cube batch contained ∙ sym whole;
  few = published.few;
  bags = published.bags;
  rest = [];
  next = ap (λ k. map (λ (spill : Spill). spill.path) (drop k spills)) none ∙ published.paths
      ∙ sym (append-nil (map (λ steps. [] ++ steps) (overfull s.leaf s.cube s.counts batch)) ∙ from_root [] (overfull s.leaf s.cube s.counts batch) refl);
}

-- how many nodes there will be
pub need_is : (s : SkeletonValue) (points batch : List PointValue) (old new : Progress) (growth : Growth) → s ≡ skeleton_of s.leaf s.cube points → IsGrown points batch s.leaf [] s.cube s.counts old new growth → old.splits.items ≡ []
    → node_total s.counts + 8 * length new.splits.items ≡ nodes (octree s.leaf s.cube (points ++ batch))
need_is s points batch old new growth is grows none =
    let before : s.counts ≡ counts_of s.leaf s.cube points = ap (λ (x : SkeletonValue). x.counts) is ∙ counted_is s.leaf s.cube points in
    let named : new.splits.items ≡ new_inner s.counts (counts_of s.leaf s.cube (points ++ batch)) =
    named_from_root [] old.splits.items new.splits.items _ _ grows.splits none refl (ap (new_inner s.counts) (counted_is s.leaf s.cube (points ++ batch))) in
    (λ i. node_total (before i) + 8 * length ((named ∙ ap (λ (t : Counts). new_inner t (counts_of s.leaf s.cube (points ++ batch))) before) i))
    ∙ sym (total_after s.leaf s.cube points batch) ∙ ap node_total (sym (counted_is s.leaf s.cube (points ++ batch))) ∙ total_at s.leaf (s.cube.bits - 7) s.cube (points ++ batch)

pub need_fits : (s : SkeletonValue) (points batch : List PointValue) → FitsSpace s.cube.ox s.cube.oy s.cube.oz s.cube.bits → length points + length batch < 2 ^ 32 → nodes (octree s.leaf s.cube (points ++ batch)) < 2 ^ 64
need_fits s points batch fits few =
    nodes_fit (octree s.leaf s.cube (points ++ batch)) record {
      cube = s.cube;
      fits = fits;
      octree = record { leaf = s.leaf; points = points ++ batch; few = omega (arith, length-append points batch); is = refl };
    }

-- the skeleton as it will be
pub planned_is : (s : SkeletonValue) (points batch : List PointValue) (old new : Progress) (growth : Growth) (plan : PlanValue) → IsGrown points batch s.leaf [] s.cube s.counts old new growth → plan.growth ≡ growth → planned s plan ≡ skeleton_of s.leaf s.cube (points ++ batch)
planned_is s points batch old new growth plan grows made = ap (λ (t : Counts). record s { counts = t }) (ap (λ (g : Growth). grown g s.counts) made ∙ grows.after)

pub is_plan : (s : SkeletonValue) (points batch : List PointValue) (old new : Progress) (growth : Growth) (plan : PlanValue) → s ≡ skeleton_of s.leaf s.cube points → length points + length batch < 2 ^ 32 → IsGrown points batch s.leaf [] s.cube s.counts old new growth → plan.growth ≡ growth → old.splits.items ≡ []
    → plan.nodes ≡ node_total s.counts + 8 * length new.splits.items → IsPlanOf s plan
is_plan s points batch old new growth plan is few grows made none need = record {
  points = points ++ batch;
  few = omega (arith, length-append points batch);
  is = planned_is s points batch old new growth plan grows made;
  total = need ∙ need_is s points batch old new growth is grows none ∙ sym (total_at s.leaf (s.cube.bits - 7) s.cube (points ++ batch)) ∙ ap node_total (sym (ap (λ (g : Growth). grown g s.counts) made ∙ grows.after));
}

pub new_inner_is : (s : SkeletonValue) (points batch : List PointValue) (old new : Progress) (growth : Growth) (plan : PlanValue) → IsGrown points batch s.leaf [] s.cube s.counts old new growth → plan.growth ≡ growth → old.splits.items ≡ [] → new.splits.items ≡ new_inner s.counts (planned s plan).counts
new_inner_is s points batch old new growth plan grows made none = named_from_root [] old.splits.items new.splits.items _ _ grows.splits none refl (ap (new_inner s.counts) (sym (ap (λ (g : Growth). grown g s.counts) made ∙ grows.after)))

pub new_leaves_are : (s : SkeletonValue) (points batch : List PointValue) (old new : Progress) (growth : Growth) (plan : PlanValue) → IsGrown points batch s.leaf [] s.cube s.counts old new growth → plan.growth ≡ growth → old.leaves.items ≡ [] → new.leaves.items ≡ new_leaves s.counts (planned s plan).counts
new_leaves_are s points batch old new growth plan grows made none = named_from_root [] old.leaves.items new.leaves.items _ _ grows.leaves none refl (ap (new_leaves s.counts) (sym (ap (λ (g : Growth). grown g s.counts) made ∙ grows.after)))
