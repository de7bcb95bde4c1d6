use Rattle.std.proofs.Common.{◌≡◌, ◌<◌, ◌-◌, ◌∙◌, ap, sym, arith, inl, inr, vec_items, length}
use Rattle.std.proofs.lemmas.List.Elements.{filter_passes}
use Rattle.cube_math.specs.Cubes.{CubeValue, contains, child}
use Rattle.octree_model.proofs.OctreeLaws.{inside_twice}
use Rattle.octree_model.proofs.ShapeLaws.{few_inside}
use Rattle.octree_plain.proofs.Children.{next_child, no_child, NextChild}
use Rattle.batch_levels.specs.Levels.{level_of}
use Rattle.least_runs.proofs.RunLaws.{nears_again}
use Rattle.voxel_sampler.specs.Nears.{least_nears, nears}
use Rattle.batch_levels.proofs.LevelLaws.{leaf_of_points, level_same}
use Rattle.batch_levels.proofs.GrownLaws.{one_more, inner_made}
use Rattle.batch_levels.proofs.growing.+made.Goals as goal

pub returns-then-len-leaf : goal.returns-then-len-leaf
returns-then-len-leaf t c =
    let b : c.cube.inside.bits ≡ c.args.cube.bits = ap (λ (x : CubeValue). x.bits) c.cube.view_is in
    leaf_of_points c.args.leaf c.args.cube c.args.points c.requires.contained
    (elim c.then-len-leaf.either [ inl few ↦ inl (omega (arith, c.len.ensures)) | inr h ↦ inr (omega (arith, h.1)) ])

pub made-requires : goal.made-requires
made-requires t c =
    let n : NextChild vec_items c.args.cube c.args.points c.loop-list.g c.in-Some.list c.next.new.self.rest.items = next_child vec_items c.args.cube c.args.points c.loop-list.g _ _ _ c.loop-list.invariant.rest c.in-Some.ensures.steps.0 in
    let b : c.cube.inside.bits ≡ c.args.cube.bits = ap (λ (x : CubeValue). x.bits) c.cube.view_is in
    let d : c.child.result.bits ≡ c.args.cube.bits - 1 = ap (λ (x : CubeValue). x.bits) c.child.ensures in
    let high : 7 < c.args.cube.bits = omega (arith, c.if-cube-eq7.false, c.cube.invariant.bits_low) in (
      omega (arith, b, d),
      (
        rw (c.from_vec-points.ensures, n.is, c.child.ensures) (filter_passes (contains (child c.args.cube c.loop-list.g)) c.args.points),
        omega (arith, ap length c.from_vec-points.ensures, ap length n.is, few_inside (child c.args.cube c.loop-list.g) c.args.points, c.requires.few),
      ),
    )

pub loop-list-preserved : goal.loop-list-preserved
loop-list-preserved t c =
    let n : NextChild vec_items c.args.cube c.args.points c.loop-list.g c.in-Some.list c.next.new.self.rest.items = next_child vec_items c.args.cube c.args.points c.loop-list.g _ _ _ c.loop-list.invariant.rest c.in-Some.ensures.steps.0 in
    record {
      below = omega (arith, n.below);
      rest = n.left;
      made = one_more (λ g. level_of c.args.leaf (child c.args.cube g) c.args.points) c.loop-list.g _ _ _ c.loop-list.invariant.made c.in_ok-push.ensures.items
          (c.in_ok-made.ensures ∙ (λ i. level_of c.args.leaf (c.child.ensures i) ((c.from_vec-points.ensures ∙ n.is) i))
          ∙ level_same c.args.leaf (child c.args.cube c.loop-list.g) _ c.args.points (inside_twice (child c.args.cube c.loop-list.g) c.args.points));
    }

pub returns : goal.returns
returns t c =
    let long : length c.loop-list.list-iterator.rest.items ≡ 0 = omega (arith, c.in-None.ensures.steps.0, c.loop-list.list-iterator.rest.ok) in
    let end : c.loop-list.g ≡ 8 = omega (arith, c.loop-list.invariant.below, no_child vec_items c.args.cube c.args.points c.loop-list.g _ c.loop-list.invariant.rest long) in
    let b : c.cube.inside.bits ≡ c.args.cube.bits = ap (λ (x : CubeValue). x.bits) c.cube.view_is in
    let high : 7 < c.args.cube.bits = omega (arith, c.if-cube-eq7.false, c.cube.invariant.bits_low) in
    inner_made c.args.leaf c.args.cube c.args.points c.len-count.result c.loop-list.g c.in_ok-runs.runs c.from_vec.result c.requires.contained
    (omega (arith, c.if-len-leaf.false, c.len.ensures)) high (omega (arith, c.len-count.ensures))
    (c.in_ok-runs.ensures ∙ ap least_nears (c.in_ok-run.ensures.run ∙ ap (nears c.args.cube) c.as_slice.ensures) ∙ nears_again c.args.cube c.args.points)
    end (c.from_vec.ensures ∙ c.loop-list.invariant.made)
