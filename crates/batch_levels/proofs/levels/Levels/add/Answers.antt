use Rattle.std.proofs.Common.{◌≡◌, ◌+◌, ◌<◌, ◌≤◌, ◌^◌, ◌∙◌, ◌++◌, ap, sym, subst, arith, length, List, IsTrue}
use Rattle.std.specs.List.{All}
use Rattle.cube_math.specs.Cubes.{CubeValue, contains}
use Rattle.cube_math.specs.Points.{PointValue}
use Rattle.leaf_counts.specs.Nodes.{node_total}
use Rattle.leaf_counts.specs.Overfull.{overfull}
use Rattle.leaf_counts.specs.Plans.{IsPublished, IsRefused}
use Rattle.leaf_counts.specs.declared.plan.PlanRefusal.{PlanRefusal}
use Rattle.octree_model.specs.Counts.{nodes}
use Rattle.octree_model.specs.Octree.{octree}
use Rattle.leaf_counts.specs.Skeletons.{SkeletonValue}
use Rattle.batch_levels.specs.Levels.{LevelsValue, AreAllOf, level_of, levels_of}
use Rattle.batch_levels.proofs.AddLaws.{root_is, over_leaves, over_leaves_below, published, levels_after, all_after, still_few, refused_too}
use Rattle.batch_levels.proofs.levels.Levels.add.Goals as goal

pub spills_of-requires : goal.spills_of-requires
spills_of-requires c =
    let l : LevelsValue = record { skeleton = c.self.inside.skeleton; total = c.self.inside.total; root = c.self.inside.root } in
    over_leaves_below l c.self.invariant.0.points c.args.batch.now.points c.as_slice.result.now c.self.invariant.0.all (c.as_slice.ensures.value ∙ c.in_ok-paths.ensures)

pub plan-requires-clause-spills : goal.plan-requires-clause-spills
plan-requires-clause-spills c =
    let l : LevelsValue = record { skeleton = c.self.inside.skeleton; total = c.self.inside.total; root = c.self.inside.root } in
    let batch : List PointValue = c.args.batch.now.points in
    let ps : List PointValue = c.self.invariant.0.points in
    let all : AreAllOf l ps = c.self.invariant.0.all in
    let paths : c.as_slice.result.now ≡ overfull l.skeleton.leaf l.skeleton.cube l.skeleton.counts batch = c.as_slice.ensures.value ∙ c.in_ok-paths.ensures in
    let few : l.total + length batch < 2 ^ 32 = omega (arith, c.requires.few, ap (λ (v : LevelsValue). v.total) c.self.view_is) in
    record {
      points = ps;
      published = published l ps batch c.as_slice.result.now c.in_ok-spills.spills.items c.as_slice-2.result.now all few paths c.in_ok-spills.ensures.paths
          (c.in_ok-spills.ensures.bags l.skeleton.leaf l.skeleton.cube ps (root_is l ps all) (over_leaves l ps batch c.as_slice.result.now all paths)) c.as_slice-2.ensures.value;
    }

pub grown-requires-clause-contained : goal.grown-requires-clause-contained
grown-requires-clause-contained c =
    let whole : c.args.batch.now.cube ≡ c.self.inside.cube = c.requires.cube ∙ ap (λ (l : LevelsValue). l.skeleton.cube) (sym c.self.view_is) ∙ sym c.self.invariant.1 in
    let P : CubeValue → List PointValue → Type 0 = λ cube ps. All (λ p. IsTrue (contains cube p)) ps in
    subst (P c.self.inside.cube) (sym c.points.ensures.value) (subst (λ (cube : CubeValue). P cube c.args.batch.now.points) whole c.points.ensures.kept.contained)

pub returns-clause-after : goal.returns-clause-after
returns-clause-after c =
    λ ps all_self.
    let l : LevelsValue = record { skeleton = c.self.inside.skeleton; total = c.self.inside.total; root = c.self.inside.root } in
    let batch : List PointValue = c.args.batch.now.points in
    let all : AreAllOf l ps = subst (λ (v : LevelsValue). AreAllOf v ps) (sym c.self.view_is) all_self in
    let paths : c.as_slice.result.now ≡ overfull l.skeleton.leaf l.skeleton.cube l.skeleton.counts batch = c.as_slice.ensures.value ∙ c.in_ok-paths.ensures in
    let few : l.total + length batch < 2 ^ 32 = omega (arith, c.requires.few, ap (λ (v : LevelsValue). v.total) c.self.view_is) in
    let due : IsPublished l.skeleton batch c.as_slice-2.result.now ps = published l ps batch c.as_slice.result.now c.in_ok-spills.spills.items c.as_slice-2.result.now all few paths c.in_ok-spills.ensures.paths
    (c.in_ok-spills.ensures.bags l.skeleton.leaf l.skeleton.cube ps (root_is l ps all) (over_leaves l ps batch c.as_slice.result.now all paths)) c.as_slice-2.ensures.value in
    levels_after l ps batch c.points.result.now c.points-2.result.now c.self.inside.leaf _ c.self.inside.cube c.commit.new.self c.in_ok-root.root all c.self.invariant.2 c.self.invariant.1 c.points.ensures.value c.points-2.ensures.value
    (c.commit.ensures ∙ c.in_ok-plan.ensures.after ps due) (omega arith)
    (c.in_ok-root.ensures ps (root_is l ps all ∙ (λ i. level_of (sym c.self.invariant.2 i) (sym c.self.invariant.1 i) ps)))
    ∙ ap (λ (v : LevelsValue). levels_of v.skeleton.leaf v.skeleton.cube (ps ++ batch)) c.self.view_is

pub invariant_of-result : goal.invariant_of-result
invariant_of-result c =
    let l : LevelsValue = record { skeleton = c.self.inside.skeleton; total = c.self.inside.total; root = c.self.inside.root } in
    let batch : List PointValue = c.args.batch.now.points in
    let ps : List PointValue = c.self.invariant.0.points in
    let all : AreAllOf l ps = c.self.invariant.0.all in
    let paths : c.as_slice.result.now ≡ overfull l.skeleton.leaf l.skeleton.cube l.skeleton.counts batch = c.as_slice.ensures.value ∙ c.in_ok-paths.ensures in
    let few : l.total + length batch < 2 ^ 32 = omega (arith, c.requires.few, ap (λ (v : LevelsValue). v.total) c.self.view_is) in
    let due : IsPublished l.skeleton batch c.as_slice-2.result.now ps = published l ps batch c.as_slice.result.now c.in_ok-spills.spills.items c.as_slice-2.result.now all few paths c.in_ok-spills.ensures.paths
    (c.in_ok-spills.ensures.bags l.skeleton.leaf l.skeleton.cube ps (root_is l ps all) (over_leaves l ps batch c.as_slice.result.now all paths)) c.as_slice-2.ensures.value in (
      record {
        points = ps ++ batch;
        all = all_after _ l.skeleton.leaf l.skeleton.cube (ps ++ batch)
            (levels_after l ps batch c.points.result.now c.points-2.result.now c.self.inside.leaf _ c.self.inside.cube c.commit.new.self c.in_ok-root.root all c.self.invariant.2 c.self.invariant.1 c.points.ensures.value c.points-2.ensures.value
            (c.commit.ensures ∙ c.in_ok-plan.ensures.after ps due) (omega arith)
            (c.in_ok-root.ensures ps (root_is l ps all ∙ (λ i. level_of (sym c.self.invariant.2 i) (sym c.self.invariant.1 i) ps))))
            (still_few l ps batch all few);
      },
      c.self.invariant.1 ∙ sym (ap (λ (s : SkeletonValue). s.cube) c.commit.ensures),
      c.self.invariant.2 ∙ sym (ap (λ (s : SkeletonValue). s.leaf) c.commit.ensures),
    )

pub returns-in_err-plan-clause-refused : goal.returns-in_err-plan-clause-refused
returns-in_err-plan-clause-refused c =
    λ ps all_self.
    let l : LevelsValue = record { skeleton = c.self.inside.skeleton; total = c.self.inside.total; root = c.self.inside.root } in
    let batch : List PointValue = c.args.batch.now.points in
    let all : AreAllOf l ps = subst (λ (v : LevelsValue). AreAllOf v ps) (sym c.self.view_is) all_self in
    let paths : c.as_slice.result.now ≡ overfull l.skeleton.leaf l.skeleton.cube l.skeleton.counts batch = c.as_slice.ensures.value ∙ c.in_ok-paths.ensures in
    let few : l.total + length batch < 2 ^ 32 = omega (arith, c.requires.few, ap (λ (v : LevelsValue). v.total) c.self.view_is) in
    let due : IsPublished l.skeleton batch c.as_slice-2.result.now ps = published l ps batch c.as_slice.result.now c.in_ok-spills.spills.items c.as_slice-2.result.now all few paths c.in_ok-spills.ensures.paths
    (c.in_ok-spills.ensures.bags l.skeleton.leaf l.skeleton.cube ps (root_is l ps all) (over_leaves l ps batch c.as_slice.result.now all paths)) c.as_slice-2.ensures.value in
    let Q : LevelsValue → PlanRefusal → Type 0 = λ v refusal. IsRefused refusal (nodes (octree v.skeleton.leaf v.skeleton.cube (ps ++ batch))) c.args.most in
    refused_too c.from_residual-in_err-plan.result c.in_err-plan.field-0.0 (Q c.args.self) c.from_residual-in_err-plan.ensures.1
    (subst (λ (v : LevelsValue). Q v c.in_err-plan.field-0.0) c.self.view_is (c.in_err-plan.ensures.refused ps due))

pub returns-clause-within : goal.returns-clause-within
returns-clause-within c =
    subst (λ n. n ≤ c.args.most) (c.in_ok-plan.ensures.of.total ∙ ap (λ (s : SkeletonValue). node_total s.counts) (sym c.commit.ensures)) c.in_ok-plan.ensures.within
