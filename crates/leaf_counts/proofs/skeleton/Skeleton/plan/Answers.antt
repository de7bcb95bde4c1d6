use Rattle.std.proofs.Common.{◌≡◌, ◌+◌, ◌*◌, ◌<◌, ◌≤◌, ◌^◌, ◌++◌, ap, sym, ◌∙◌, subst, refl, arith, length, rules, List, [], IsTrue}
use Rattle.std.specs.List.{All}
use Rattle.cube_math.specs.Points.{PointValue}
use Rattle.cube_math.specs.Cubes.{CubeValue, contains}
use Rattle.octree_model.specs.Counts.{nodes}
use Rattle.octree_model.specs.Octree.{octree}
use Rattle.leaf_counts.specs.Growing.{IsGrown}
use Rattle.leaf_counts.specs.Plans.{HasSpills, IsPublished, IsPlanOf, PlanValue, planned, new_inner, new_leaves}
use Rattle.leaf_counts.specs.Skeletons.{SkeletonValue, skeleton_of}
use Rattle.leaf_counts.proofs.PlanLaws.{root_growing, need_is, need_fits, planned_is, is_plan, new_inner_is, new_leaves_are}
use Rattle.leaf_counts.proofs.skeleton.Skeleton.plan.Goals as goal

pub grow_all-requires : goal.grow_all-requires
grow_all-requires c =
    let s : SkeletonValue = record { cube = c.self.inside.cube; leaf = c.self.inside.leaf; counts = c.self.inside.counts } in
    let points : List PointValue = c.args.batch.now.points in
    let inside_cube : c.args.batch.now.cube ≡ s.cube = c.requires.cube ∙ ap (λ (x : SkeletonValue). x.cube) (sym c.self.view_is) in
    let contained : All (λ p. IsTrue (contains s.cube p)) points = subst (λ (cube : CubeValue). All (λ p. IsTrue (contains cube p)) points) inside_cube c.points.ensures.kept.contained in
    let has : HasSpills s points c.args.spills.now = subst (λ (x : SkeletonValue). HasSpills x points c.args.spills.now) (sym c.self.view_is) c.requires.spills in
    record {
      root = s.cube;
      points = has.points;
      batch = points;
      growing = root_growing s points c.points.result.now c.args.spills.now c.new-progress.result.used has.points has.published contained c.points.ensures.value c.new-progress.ensures.used;
    }

pub overflow_mul-need : goal.overflow_mul-need
overflow_mul-need c =
    let s : SkeletonValue = record { cube = c.self.inside.cube; leaf = c.self.inside.leaf; counts = c.self.inside.counts } in
    let points : List PointValue = c.args.batch.now.points in
    let inside_cube : c.args.batch.now.cube ≡ s.cube = c.requires.cube ∙ ap (λ (x : SkeletonValue). x.cube) (sym c.self.view_is) in
    let contained : All (λ p. IsTrue (contains s.cube p)) points = subst (λ (cube : CubeValue). All (λ p. IsTrue (contains cube p)) points) inside_cube c.points.ensures.kept.contained in
    let has : HasSpills s points c.args.spills.now = subst (λ (x : SkeletonValue). HasSpills x points c.args.spills.now) (sym c.self.view_is) c.requires.spills in
    let grows : IsGrown has.points points s.leaf [] s.cube s.counts c.new-progress.result c.grow_all.new.progress c.in_ok-growth.growth = c.in_ok-growth.ensures.grown s.cube has.points points (root_growing s points c.points.result.now c.args.spills.now c.new-progress.result.used has.points has.published contained c.points.ensures.value c.new-progress.ensures.used) in
    let length_of : c.len.result ≡ length c.grow_all.new.progress.splits.items = omega (arith, c.len.ensures, c.grow_all.new.progress.splits.ok) in
    let need : c.from.result + 8 * c.len.result ≡ nodes (octree s.leaf s.cube (has.points ++ points)) = (λ i. (c.from.ensures ∙ c.self.invariant.total) i + 8 * length_of i) ∙ need_is s has.points points c.new-progress.result c.grow_all.new.progress c.in_ok-growth.growth has.published.is grows c.new-progress.ensures.splits in
    let small : nodes (octree s.leaf s.cube (has.points ++ points)) < 2 ^ 64 = need_fits s has.points points c.in_ok-growth.ensures.fits has.published.few in
    let low : 8 * c.len.result < 2 ^ 64 = omega (arith, need, small) in
    search rules

pub overflow_add-need : goal.overflow_add-need
overflow_add-need c =
    let s : SkeletonValue = record { cube = c.self.inside.cube; leaf = c.self.inside.leaf; counts = c.self.inside.counts } in
    let points : List PointValue = c.args.batch.now.points in
    let inside_cube : c.args.batch.now.cube ≡ s.cube = c.requires.cube ∙ ap (λ (x : SkeletonValue). x.cube) (sym c.self.view_is) in
    let contained : All (λ p. IsTrue (contains s.cube p)) points = subst (λ (cube : CubeValue). All (λ p. IsTrue (contains cube p)) points) inside_cube c.points.ensures.kept.contained in
    let has : HasSpills s points c.args.spills.now = subst (λ (x : SkeletonValue). HasSpills x points c.args.spills.now) (sym c.self.view_is) c.requires.spills in
    let grows : IsGrown has.points points s.leaf [] s.cube s.counts c.new-progress.result c.grow_all.new.progress c.in_ok-growth.growth = c.in_ok-growth.ensures.grown s.cube has.points points (root_growing s points c.points.result.now c.args.spills.now c.new-progress.result.used has.points has.published contained c.points.ensures.value c.new-progress.ensures.used) in
    let length_of : c.len.result ≡ length c.grow_all.new.progress.splits.items = omega (arith, c.len.ensures, c.grow_all.new.progress.splits.ok) in
    let need : c.from.result + 8 * c.len.result ≡ nodes (octree s.leaf s.cube (has.points ++ points)) = (λ i. (c.from.ensures ∙ c.self.invariant.total) i + 8 * length_of i) ∙ need_is s has.points points c.new-progress.result c.grow_all.new.progress c.in_ok-growth.growth has.published.is grows c.new-progress.ensures.splits in
    let small : nodes (octree s.leaf s.cube (has.points ++ points)) < 2 ^ 64 = need_fits s has.points points c.in_ok-growth.ensures.fits has.published.few in
    let low : c.from.result + 8 * c.len.result < 2 ^ 64 = omega (arith, need, small) in
    search rules

pub returns-then-need-from-clause-refused : goal.returns-then-need-from-clause-refused
returns-then-need-from-clause-refused c =
    let s : SkeletonValue = record { cube = c.self.inside.cube; leaf = c.self.inside.leaf; counts = c.self.inside.counts } in
    let points : List PointValue = c.args.batch.now.points in
    let inside_cube : c.args.batch.now.cube ≡ s.cube = c.requires.cube ∙ ap (λ (x : SkeletonValue). x.cube) (sym c.self.view_is) in
    let contained : All (λ p. IsTrue (contains s.cube p)) points = subst (λ (cube : CubeValue). All (λ p. IsTrue (contains cube p)) points) inside_cube c.points.ensures.kept.contained in
    let length_of : c.len.result ≡ length c.grow_all.new.progress.splits.items = omega (arith, c.len.ensures, c.grow_all.new.progress.splits.ok) in
    λ before published.
    subst (λ (x : SkeletonValue). IsPublished x points c.args.spills.now before
    → (c.from.result + 8 * c.len.result ≡ nodes (octree x.leaf x.cube (before ++ points))) × (c.args.most ≡ c.args.most) × (c.args.most < nodes (octree x.leaf x.cube (before ++ points)))) c.self.view_is
    (λ own.
    let grows : IsGrown before points s.leaf [] s.cube s.counts c.new-progress.result c.grow_all.new.progress c.in_ok-growth.growth = c.in_ok-growth.ensures.grown s.cube before points (root_growing s points c.points.result.now c.args.spills.now c.new-progress.result.used before own contained c.points.ensures.value c.new-progress.ensures.used) in
    let need : c.from.result + 8 * c.len.result ≡ nodes (octree s.leaf s.cube (before ++ points)) = (λ i. (c.from.ensures ∙ c.self.invariant.total) i + 8 * length_of i) ∙ need_is s before points c.new-progress.result c.grow_all.new.progress c.in_ok-growth.growth own.is grows c.new-progress.ensures.splits in
    (need, refl, omega (arith, need, c.if-need-from.true, c.from-2.ensures))) published

pub returns-clause-of : goal.returns-clause-of
returns-clause-of c =
    let s : SkeletonValue = record { cube = c.self.inside.cube; leaf = c.self.inside.leaf; counts = c.self.inside.counts } in
    let points : List PointValue = c.args.batch.now.points in
    let inside_cube : c.args.batch.now.cube ≡ s.cube = c.requires.cube ∙ ap (λ (x : SkeletonValue). x.cube) (sym c.self.view_is) in
    let contained : All (λ p. IsTrue (contains s.cube p)) points = subst (λ (cube : CubeValue). All (λ p. IsTrue (contains cube p)) points) inside_cube c.points.ensures.kept.contained in
    let has : HasSpills s points c.args.spills.now = subst (λ (x : SkeletonValue). HasSpills x points c.args.spills.now) (sym c.self.view_is) c.requires.spills in
    let grows : IsGrown has.points points s.leaf [] s.cube s.counts c.new-progress.result c.grow_all.new.progress c.in_ok-growth.growth = c.in_ok-growth.ensures.grown s.cube has.points points (root_growing s points c.points.result.now c.args.spills.now c.new-progress.result.used has.points has.published contained c.points.ensures.value c.new-progress.ensures.used) in
    let length_of : c.len.result ≡ length c.grow_all.new.progress.splits.items = omega (arith, c.len.ensures, c.grow_all.new.progress.splits.ok) in
    let plan : PlanValue = record { growth = c.in_ok-growth.growth; nodes = c.from.result + 8 * c.len.result; splits = c.grow_all.new.progress.splits.items; leaves = c.grow_all.new.progress.leaves.items } in
    subst (λ (x : SkeletonValue). IsPlanOf x plan) c.self.view_is
    (is_plan s has.points points c.new-progress.result c.grow_all.new.progress c.in_ok-growth.growth plan has.published.is has.published.few grows refl c.new-progress.ensures.splits (λ i. (c.from.ensures ∙ c.self.invariant.total) i + 8 * length_of i))

pub returns-clause-after : goal.returns-clause-after
returns-clause-after c =
    let s : SkeletonValue = record { cube = c.self.inside.cube; leaf = c.self.inside.leaf; counts = c.self.inside.counts } in
    let points : List PointValue = c.args.batch.now.points in
    let inside_cube : c.args.batch.now.cube ≡ s.cube = c.requires.cube ∙ ap (λ (x : SkeletonValue). x.cube) (sym c.self.view_is) in
    let contained : All (λ p. IsTrue (contains s.cube p)) points = subst (λ (cube : CubeValue). All (λ p. IsTrue (contains cube p)) points) inside_cube c.points.ensures.kept.contained in
    let plan : PlanValue = record { growth = c.in_ok-growth.growth; nodes = c.from.result + 8 * c.len.result; splits = c.grow_all.new.progress.splits.items; leaves = c.grow_all.new.progress.leaves.items } in
    λ before published.
    subst (λ (x : SkeletonValue). IsPublished x points c.args.spills.now before → planned x plan ≡ skeleton_of x.leaf x.cube (before ++ points)) c.self.view_is
    (λ own. planned_is s before points c.new-progress.result c.grow_all.new.progress c.in_ok-growth.growth plan (c.in_ok-growth.ensures.grown s.cube before points (root_growing s points c.points.result.now c.args.spills.now c.new-progress.result.used before own contained c.points.ensures.value c.new-progress.ensures.used)) refl) published

pub returns-clause-splits : goal.returns-clause-splits
returns-clause-splits c =
    let s : SkeletonValue = record { cube = c.self.inside.cube; leaf = c.self.inside.leaf; counts = c.self.inside.counts } in
    let points : List PointValue = c.args.batch.now.points in
    let inside_cube : c.args.batch.now.cube ≡ s.cube = c.requires.cube ∙ ap (λ (x : SkeletonValue). x.cube) (sym c.self.view_is) in
    let contained : All (λ p. IsTrue (contains s.cube p)) points = subst (λ (cube : CubeValue). All (λ p. IsTrue (contains cube p)) points) inside_cube c.points.ensures.kept.contained in
    let has : HasSpills s points c.args.spills.now = subst (λ (x : SkeletonValue). HasSpills x points c.args.spills.now) (sym c.self.view_is) c.requires.spills in
    let grows : IsGrown has.points points s.leaf [] s.cube s.counts c.new-progress.result c.grow_all.new.progress c.in_ok-growth.growth = c.in_ok-growth.ensures.grown s.cube has.points points (root_growing s points c.points.result.now c.args.spills.now c.new-progress.result.used has.points has.published contained c.points.ensures.value c.new-progress.ensures.used) in
    let length_of : c.len.result ≡ length c.grow_all.new.progress.splits.items = omega (arith, c.len.ensures, c.grow_all.new.progress.splits.ok) in
    let plan : PlanValue = record { growth = c.in_ok-growth.growth; nodes = c.from.result + 8 * c.len.result; splits = c.grow_all.new.progress.splits.items; leaves = c.grow_all.new.progress.leaves.items } in
    subst (λ (x : SkeletonValue). plan.splits ≡ new_inner x.counts (planned x plan).counts) c.self.view_is (new_inner_is s has.points points c.new-progress.result c.grow_all.new.progress c.in_ok-growth.growth plan grows refl c.new-progress.ensures.splits)

pub returns-clause-leaves : goal.returns-clause-leaves
returns-clause-leaves c =
    let s : SkeletonValue = record { cube = c.self.inside.cube; leaf = c.self.inside.leaf; counts = c.self.inside.counts } in
    let points : List PointValue = c.args.batch.now.points in
    let inside_cube : c.args.batch.now.cube ≡ s.cube = c.requires.cube ∙ ap (λ (x : SkeletonValue). x.cube) (sym c.self.view_is) in
    let contained : All (λ p. IsTrue (contains s.cube p)) points = subst (λ (cube : CubeValue). All (λ p. IsTrue (contains cube p)) points) inside_cube c.points.ensures.kept.contained in
    let has : HasSpills s points c.args.spills.now = subst (λ (x : SkeletonValue). HasSpills x points c.args.spills.now) (sym c.self.view_is) c.requires.spills in
    let grows : IsGrown has.points points s.leaf [] s.cube s.counts c.new-progress.result c.grow_all.new.progress c.in_ok-growth.growth = c.in_ok-growth.ensures.grown s.cube has.points points (root_growing s points c.points.result.now c.args.spills.now c.new-progress.result.used has.points has.published contained c.points.ensures.value c.new-progress.ensures.used) in
    let length_of : c.len.result ≡ length c.grow_all.new.progress.splits.items = omega (arith, c.len.ensures, c.grow_all.new.progress.splits.ok) in
    let plan : PlanValue = record { growth = c.in_ok-growth.growth; nodes = c.from.result + 8 * c.len.result; splits = c.grow_all.new.progress.splits.items; leaves = c.grow_all.new.progress.leaves.items } in
    subst (λ (x : SkeletonValue). plan.leaves ≡ new_leaves x.counts (planned x plan).counts) c.self.view_is (new_leaves_are s has.points points c.new-progress.result c.grow_all.new.progress c.in_ok-growth.growth plan grows refl c.new-progress.ensures.leaves)

pub returns-clause-bounded : goal.returns-clause-bounded
returns-clause-bounded c =
    let s : SkeletonValue = record { cube = c.self.inside.cube; leaf = c.self.inside.leaf; counts = c.self.inside.counts } in
    let points : List PointValue = c.args.batch.now.points in
    let inside_cube : c.args.batch.now.cube ≡ s.cube = c.requires.cube ∙ ap (λ (x : SkeletonValue). x.cube) (sym c.self.view_is) in
    let contained : All (λ p. IsTrue (contains s.cube p)) points = subst (λ (cube : CubeValue). All (λ p. IsTrue (contains cube p)) points) inside_cube c.points.ensures.kept.contained in
    let length_of : c.len.result ≡ length c.grow_all.new.progress.splits.items = omega (arith, c.len.ensures, c.grow_all.new.progress.splits.ok) in
    λ before published.
    subst (λ (x : SkeletonValue). IsPublished x points c.args.spills.now before → nodes (octree x.leaf x.cube (before ++ points)) ≤ c.args.most) c.self.view_is
    (λ own.
    let grows : IsGrown before points s.leaf [] s.cube s.counts c.new-progress.result c.grow_all.new.progress c.in_ok-growth.growth = c.in_ok-growth.ensures.grown s.cube before points (root_growing s points c.points.result.now c.args.spills.now c.new-progress.result.used before own contained c.points.ensures.value c.new-progress.ensures.used) in
    let need : c.from.result + 8 * c.len.result ≡ nodes (octree s.leaf s.cube (before ++ points)) = (λ i. (c.from.ensures ∙ c.self.invariant.total) i + 8 * length_of i) ∙ need_is s before points c.new-progress.result c.grow_all.new.progress c.in_ok-growth.growth own.is grows c.new-progress.ensures.splits in
    omega (arith, need, c.if-need-from.false, c.from-2.ensures)) published
