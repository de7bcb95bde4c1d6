use Rattle.std.proofs.Common.{◌≡◌, ◌∙◌, ap, sym, subst, arith, map, length, List}
use Rattle.std.specs.List.{All}
use Rattle.std.specs.Prelude.{IfOk}
use Rattle.cube_math.specs.Cubes.{CubeValue}
use Rattle.cube_math.specs.Points.{PointValue}
use Rattle.octree_model.specs.Bags.{IsSameBag}
use Rattle.octree_model.specs.Octree.{inside}
use Rattle.leaf_counts.specs.declared.plan.Spill.{Spill}
use Rattle.leaf_counts.specs.Nodes.{cube_at}
use Rattle.leaf_counts.specs.Plans.{IsPublished, planned}
use Rattle.leaf_counts.specs.Skeletons.{skeleton_of}
use Rattle.leaf_counts.proofs.tests.plan_batch.Goals as goal

pub plan-requires-clause-spills : goal.plan-requires-clause-spills
plan-requires-clause-spills c =
    let is : c.cube.result ≡ c.args.skeleton.now.cube = c.cube.ensures ∙ c.requires.cube in
    let P : CubeValue → List Spill → Type 0 = λ cube l. All (λ spill. IsSameBag spill.points.items (inside (cube_at cube spill.path) c.args.points.now)) l in
    record {
      points = c.args.points.now;
      published = record {
        is = c.requires.kept;
        few = omega (arith, c.if-points-gt1000.false, c.if-points-gt1000-2.false, ap length c.points.ensures.value);
        paths = ap (map (λ (spill : Spill). spill.path)) c.as_slice-2.ensures.value ∙ c.in_ok-spills.ensures.paths ∙ c.as_slice.ensures.value ∙ c.in_ok-paths.ensures;
        bags = subst (P c.args.skeleton.now.cube) (sym c.as_slice-2.ensures.value) (subst (λ (cube : CubeValue). P cube c.in_ok-spills.spills.items) is c.in_ok-spills.ensures.bags);
      };
    }

pub returns-clause-after : goal.returns-clause-after
returns-clause-after c =
    let is : c.cube.result ≡ c.args.skeleton.now.cube = c.cube.ensures ∙ c.requires.cube in
    let P : CubeValue → List Spill → Type 0 = λ cube l. All (λ spill. IsSameBag spill.points.items (inside (cube_at cube spill.path) c.args.points.now)) l in
    c.plan.ensures.after c.args.points.now record {
      is = c.requires.kept;
      few = omega (arith, c.if-points-gt1000.false, c.if-points-gt1000-2.false, ap length c.points.ensures.value);
      paths = ap (map (λ (spill : Spill). spill.path)) c.as_slice-2.ensures.value ∙ c.in_ok-spills.ensures.paths ∙ c.as_slice.ensures.value ∙ c.in_ok-paths.ensures;
      bags = subst (P c.args.skeleton.now.cube) (sym c.as_slice-2.ensures.value) (subst (λ (cube : CubeValue). P cube c.in_ok-spills.spills.items) is c.in_ok-spills.ensures.bags);
    }
