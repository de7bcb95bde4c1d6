use Rattle.std.proofs.Common.{◌≡◌, ◌-◌, ◌<◌, ◌∙◌, ap, arith, inl, inr, vec_items, [], ◌∷◌, length, ℕ}
use Rattle.std.proofs.lemmas.List.Elements.{filter_passes}
use Rattle.std.proofs.lemmas.List.{length_push}
use Rattle.cube_math.specs.Cubes.{CubeValue, contains, child}
use Rattle.octree_model.specs.Octree.{inside}
use Rattle.octree_model.proofs.OctreeLaws.{inside_twice}
use Rattle.octree_plain.proofs.Children.{next_child, no_child, NextChild}
use Rattle.octree_model.proofs.ShapeLaws.{few_inside}
use Rattle.leaf_counts.specs.declared.counts.Counts.{Counts}
use Rattle.leaf_counts.specs.Paths.{inner_paths, leaf_paths}
use Rattle.leaf_counts.proofs.CountLaws.{counts_of, counted_is, counts_same}
use Rattle.leaf_counts.proofs.SplitLaws.{leaf_of_points, inner_of_points, one_more, so_many, named_more}
use Rattle.leaf_counts.proofs.splitting.+split.Goals as goal

pub returns-then-len-leaf-clause-counts : goal.returns-then-len-leaf-clause-counts
returns-then-len-leaf-clause-counts t c =
    let b : c.cube.inside.bits ≡ c.args.cube.bits = ap (λ (x : CubeValue). x.bits) c.cube.view_is in
    leaf_of_points c.args.leaf c.args.cube c.args.points.items c.len-count.result c.requires.contained (omega (arith, c.len-count.ensures, c.args.points.ok))
    (elim c.then-len-leaf.either [ inl few ↦ inl (omega (arith, c.len.ensures)) | inr h ↦ inr (omega (arith, h.1)) ])

pub split-requires : goal.split-requires
split-requires t c =
    let n : NextChild vec_items c.args.cube c.args.points.items c.loop-list.g c.in-Some.list c.next.new.self.rest.items = next_child vec_items c.args.cube c.args.points.items c.loop-list.g _ _ _ c.loop-list.invariant.rest c.in-Some.ensures.steps.0 in
    let b : c.cube.inside.bits ≡ c.args.cube.bits = ap (λ (x : CubeValue). x.bits) c.cube.view_is in
    let d : c.child-in-loop-list.result.bits ≡ c.args.cube.bits - 1 = ap (λ (x : CubeValue). x.bits) c.child-in-loop-list.ensures in
    let high : 7 < c.args.cube.bits = omega (arith, c.if-cube-eq7.false, c.cube.invariant.bits_low) in (
      omega (arith, b, d),
      (
        rw (n.is, c.child-in-loop-list.ensures) (filter_passes (contains (child c.args.cube c.loop-list.g)) c.args.points.items),
        (
          omega (arith, ap length n.is, few_inside (child c.args.cube c.loop-list.g) c.args.points.items, c.requires.few),
          omega (arith, ap length c.child.ensures, length_push c.args.path c.loop-list.g, d, high, c.requires.room),
        ),
      ),
    )

pub loop-list-preserved : goal.loop-list-preserved
loop-list-preserved t c =
    let n : NextChild vec_items c.args.cube c.args.points.items c.loop-list.g c.in-Some.list c.next.new.self.rest.items = next_child vec_items c.args.cube c.args.points.items c.loop-list.g _ _ _ c.loop-list.invariant.rest c.in-Some.ensures.steps.0 in
    let F : ℕ → Counts = λ g. counts_of c.args.leaf (child c.args.cube g) c.args.points.items in
    let long : length c.loop-list.children.items ≡ c.loop-list.g = so_many F c.loop-list.g c.loop-list.children.items c.loop-list.invariant.made in
    record {
      below = omega (arith, n.below);
      used = c.in_ok-split.ensures.used ∙ c.loop-list.invariant.used;
      rest = n.left;
      made = one_more F c.loop-list.g _ _ _ c.loop-list.invariant.made c.in_ok-push-3.ensures.items
          (c.in_ok-split.ensures.counts ∙ counted_is c.args.leaf c.child-in-loop-list.result c.in-Some.list.items
          ∙ (λ i. counts_of c.args.leaf (c.child-in-loop-list.ensures i) (n.is i))
          ∙ counts_same c.args.leaf (child c.args.cube c.loop-list.g) (inside (child c.args.cube c.loop-list.g) c.args.points.items) c.args.points.items (inside_twice (child c.args.cube c.loop-list.g) c.args.points.items));
      splits = named_more inner_paths c.args.path c.child.result c.loop-list.g ([] ∷ []) _ _ _ c.loop-list.children.items _ _ long c.in_ok-push-3.ensures.items c.child.ensures c.loop-list.invariant.splits c.in_ok-split.ensures.splits;
      leaves = named_more leaf_paths c.args.path c.child.result c.loop-list.g [] _ _ _ c.loop-list.children.items _ _ long c.in_ok-push-3.ensures.items c.child.ensures c.loop-list.invariant.leaves c.in_ok-split.ensures.leaves;
    }

pub returns-clause-counts : goal.returns-clause-counts
returns-clause-counts t c =
    let long : length c.loop-list.list-iterator.rest.items ≡ 0 = omega (arith, c.in-None.ensures.steps.0, c.loop-list.list-iterator.rest.ok) in
    let end : c.loop-list.g ≡ 8 = omega (arith, c.loop-list.invariant.below, no_child vec_items c.args.cube c.args.points.items c.loop-list.g _ c.loop-list.invariant.rest long) in
    let b : c.cube.inside.bits ≡ c.args.cube.bits = ap (λ (x : CubeValue). x.bits) c.cube.view_is in
    let high : 7 < c.args.cube.bits = omega (arith, c.if-cube-eq7.false, c.cube.invariant.bits_low) in
    inner_of_points c.args.leaf c.args.cube c.args.points.items c.len-count.result c.loop-list.g c.from_vec.result c.requires.contained (omega (arith, c.len-count.ensures, c.args.points.ok))
    (omega (arith, c.if-len-leaf.false, c.len.ensures)) high end (c.from_vec.ensures ∙ c.loop-list.invariant.made)
