use Rattle.std.proofs.Common.{◌≡◌, ◌-◌, arith, ◌∙◌, ap, rules, inl, inr, vec_items, List, length}
use Rattle.std.proofs.lemmas.List.Elements.{filter_passes}
use Rattle.cube_math.specs.Points.{PointValue}
use Rattle.cube_math.specs.Cubes.{CubeValue, contains, child}
use Rattle.octree_model.specs.Octree.{octree}
use Rattle.octree_model.proofs.NumberLaws.{length-up_to}
use Rattle.octree_model.proofs.OctreeLaws.{leaf_by_count, octree_at-inside}
use Rattle.octree_plain.proofs.Children.{next_child, no_child, one_tree, NextChild, grown_node}
use Rattle.std.proofs.lemmas.List.{length-map}
use Rattle.octree_model.specs.declared.tree.Tree.{Inner}
use Rattle.std.specs.Cow.{cow_slice_items}
use Rattle.octree_plain.proofs.growth.+grow.Goals as goal

pub returns-then-len-leaf : goal.returns-then-len-leaf
returns-then-len-leaf t c =
    let b : c.cube.inside.bits ≡ c.args.cube.bits = ap (λ (x : CubeValue). x.bits) c.cube.view_is in
    record {
      tree = rw (c.new.ensures, c.in_ok-into_owned.ensures.items_if_clones_equal (λ x y h. h)) (leaf_by_count c.args.leaf _ c.args.cube (cow_slice_items c.args.points) c.requires.contained
          (elim c.then-len-leaf.either [ inl few ↦ inl (omega arith) | inr h ↦ inr (omega (arith, h.1)) ]));
      between_nodes = c.requires.between_nodes;
    }

pub grow-requires : goal.grow-requires
grow-requires t c =
    let n : NextChild vec_items c.args.cube (cow_slice_items c.args.points) c.loop-list.g c.in-Some.list c.next.new.self.rest.items = next_child vec_items c.args.cube (cow_slice_items c.args.points) c.loop-list.g _ _ _ c.loop-list.invariant.rest c.in-Some.ensures.steps.0 in
    let b : c.cube.inside.bits ≡ c.args.cube.bits = ap (λ (x : CubeValue). x.bits) c.cube.view_is in
    let d : c.child.result.bits ≡ c.args.cube.bits - 1 = ap (λ (x : CubeValue). x.bits) c.child.ensures in
    (search (rules, b, d), (c.loop-list.invariant.between, rw (n.is, c.child.ensures) (filter_passes (contains (child c.args.cube c.loop-list.g)) (cow_slice_items c.args.points))))

pub loop-list-preserved : goal.loop-list-preserved
loop-list-preserved t c =
    let n : NextChild vec_items c.args.cube (cow_slice_items c.args.points) c.loop-list.g c.in-Some.list c.next.new.self.rest.items = next_child vec_items c.args.cube (cow_slice_items c.args.points) c.loop-list.g _ _ _ c.loop-list.invariant.rest c.in-Some.ensures.steps.0 in
    record {
      below = omega arith;
      between = c.in_ok-grow.ensures.between_nodes;
      rest = n.left;
      grown = one_tree _ c.loop-list.g _ _ _ c.loop-list.invariant.grown c.in_ok-push.ensures.items
          (c.in_ok-grow.ensures.tree ∙ ap (λ (x : CubeValue). octree c.args.leaf x c.in-Some.list.items) c.child.ensures
          ∙ ap (λ (qs : List PointValue). octree c.args.leaf (child c.args.cube c.loop-list.g) qs) n.is
          ∙ octree_at-inside c.args.leaf (c.args.cube.bits - 1 - 7) (child c.args.cube c.loop-list.g) (cow_slice_items c.args.points));
    }

pub new-requires-2 : goal.new-requires-2
new-requires-2 t c =
    let long : length c.loop-list.list-iterator.rest.items ≡ 0 = omega (arith, c.in-None.ensures.steps.0, c.loop-list.list-iterator.rest.ok) in
    let end : c.loop-list.g ≡ 8 = omega (arith, no_child vec_items c.args.cube (cow_slice_items c.args.points) c.loop-list.g _ c.loop-list.invariant.rest long) in
    ap length c.loop-list.invariant.grown ∙ length-map _ _ ∙ length-up_to _ ∙ end

pub returns : goal.returns
returns t c =
    let long : length c.loop-list.list-iterator.rest.items ≡ 0 = omega (arith, c.in-None.ensures.steps.0, c.loop-list.list-iterator.rest.ok) in
    let end : c.loop-list.g ≡ 8 = omega (arith, no_child vec_items c.args.cube (cow_slice_items c.args.points) c.loop-list.g _ c.loop-list.invariant.rest long) in
    let b : c.cube.inside.bits ≡ c.args.cube.bits = ap (λ (x : CubeValue). x.bits) c.cube.view_is in
    record {
      tree = ap Inner c.new-2.ensures ∙ grown_node c.args.leaf c.args.cube (cow_slice_items c.args.points) _ c.loop-list.g _ _ c.requires.contained (omega arith) (omega arith)
          (omega arith) (search rules) end c.loop-list.invariant.grown;
      between_nodes = c.loop-list.invariant.between;
    }
