use Rattle.std.proofs.Common.{◌≡◌, ◌++◌, ◌+◌, ◌-◌, ◌<◌, ◌^◌, ap, sym, ◌∙◌, subst, inl, inr, refl, arith, length, rules, List, vec_items, IsTrue}
use Rattle.std.specs.List.{All}
use Rattle.std.proofs.lemmas.List.{length_push, length-append}
use Rattle.std.proofs.lemmas.List.Elements.{All-append}
use Rattle.std.proofs.lemmas.Option.{slice_get_read}
use Rattle.cube_math.specs.Points.{PointValue}
use Rattle.cube_math.specs.Cubes.{CubeValue, contains, child}
use Rattle.octree_model.specs.Bags.{IsSameBag}
use Rattle.octree_model.specs.Octree.{inside}
use Rattle.octree_model.proofs.ShapeLaws.{few_inside}
use Rattle.leaf_counts.specs.declared.counts.Counts.{Inner}
use Rattle.leaf_counts.proofs.BagCounts.{as_many, bag_inside}
use Rattle.leaf_counts.proofs.GrowLaws.{grown_nothing, grown_leaf, grown_split, HasSpill, next_spill, half_begins, half_goes_on, child_growing, grown_whole, part_contained, leaf_fits, inner_fits, IsInnerNode, inner_node}
use Rattle.leaf_counts.proofs.OverfullLaws.{no_items, list_of_child, eight_lists}
use Rattle.leaf_counts.proofs.growing.+grow.Goals as goal
use Rattle.leaf_counts.proofs.growing.+grow.Goals.{else-cube-gt7-via-then-cube-gt7+else-from-points, else-cube-gt7-via-else-cube-gt7}

pub returns-then-is_empty : goal.returns-then-is_empty
returns-then-is_empty t c =
    λ root before batch growing. grown_nothing root before batch c.args.leaf c.args.path c.args.cube c.args.counts.now c.args.points.now c.args.spills.now c.args.progress.now growing (no_items c.args.points.now c.if-is_empty.ensures)

pub split-requires-clause-contained : goal.split-requires-clause-contained
split-requires-clause-contained t c =
    let bits : c.cube.inside.bits ≡ c.args.cube.bits = ap (λ (x : CubeValue). x.bits) c.cube.view_is in
    let high : 7 < c.args.cube.bits = omega (arith, bits, c.if-cube-gt7.true) in
    let spill : HasSpill c.requires.growing.points c.args.cube c.args.spills.now c.args.progress.now.used = next_spill c.requires.growing.root c.requires.growing.points c.requires.growing.batch c.args.leaf c.args.path c.args.cube c.args.counts.now c.args.points.now c.args.spills.now c.args.progress.now.used c.in-Leaf.count c.requires.growing.growing c.in-Leaf.is high (omega (arith, c.if-from-points.true, c.from.ensures, c.from-then-cube-gt7.ensures)) in
    let bag : IsSameBag c.index-spills-progress.result.points.items (inside c.args.cube c.requires.growing.points) = spill.bag c.index-spills-progress.result c.index-spills-progress.is in
    let all : c.in_ok-all-in-Leaf.all.items ≡ c.index-spills-progress.result.points.items ++ c.args.points.now = c.in_ok-all-in-Leaf.ensures ∙ ap (λ (ps : List PointValue). ps ++ c.args.points.now) c.as_slice.ensures.value in
    let contained : All (λ p. IsTrue (contains c.args.cube p)) (c.index-spills-progress.result.points.items ++ c.args.points.now) =
    All-append (λ p. IsTrue (contains c.args.cube p)) _ _ (bag_inside c.args.cube c.index-spills-progress.result.points.items c.requires.growing.points bag) (part_contained c.requires.growing.root c.requires.growing.points c.requires.growing.batch c.args.leaf c.args.path c.args.cube c.args.counts.now c.args.points.now c.args.spills.now c.args.progress.now.used c.requires.growing.growing) in
    subst (λ (ps : List PointValue). All (λ p. IsTrue (contains c.args.cube p)) ps) (sym all) contained

pub split-requires-clause-few : goal.split-requires-clause-few
split-requires-clause-few t c =
    let bits : c.cube.inside.bits ≡ c.args.cube.bits = ap (λ (x : CubeValue). x.bits) c.cube.view_is in
    let high : 7 < c.args.cube.bits = omega (arith, bits, c.if-cube-gt7.true) in
    let spill : HasSpill c.requires.growing.points c.args.cube c.args.spills.now c.args.progress.now.used = next_spill c.requires.growing.root c.requires.growing.points c.requires.growing.batch c.args.leaf c.args.path c.args.cube c.args.counts.now c.args.points.now c.args.spills.now c.args.progress.now.used c.in-Leaf.count c.requires.growing.growing c.in-Leaf.is high (omega (arith, c.if-from-points.true, c.from.ensures, c.from-then-cube-gt7.ensures)) in
    let bag : IsSameBag c.index-spills-progress.result.points.items (inside c.args.cube c.requires.growing.points) = spill.bag c.index-spills-progress.result c.index-spills-progress.is in
    let all : c.in_ok-all-in-Leaf.all.items ≡ c.index-spills-progress.result.points.items ++ c.args.points.now = c.in_ok-all-in-Leaf.ensures ∙ ap (λ (ps : List PointValue). ps ++ c.args.points.now) c.as_slice.ensures.value in
    omega (arith, ap length all, length-append c.index-spills-progress.result.points.items c.args.points.now, as_many c.index-spills-progress.result.points.items (inside c.args.cube c.requires.growing.points) bag, few_inside c.args.cube c.requires.growing.points, few_inside c.args.cube c.requires.growing.batch, ap length c.requires.growing.growing.within, c.requires.growing.growing.few)

pub overflow_cast-result : goal.overflow_cast-result
overflow_cast-result t c =
    let low : length c.args.points.now < 2 ^ 32 = omega (arith, leaf_fits c.requires.growing.root c.requires.growing.points c.requires.growing.batch c.args.leaf c.args.path c.args.cube c.args.counts.now c.args.points.now c.args.spills.now c.args.progress.now.used c.in-Leaf.count c.requires.growing.growing c.in-Leaf.is) in
    search rules

pub overflow_add-result : goal.overflow_add-result
overflow_add-result t c =
    let low : c.in-Leaf.count + length c.args.points.now < 2 ^ 32 = leaf_fits c.requires.growing.root c.requires.growing.points c.requires.growing.batch c.args.leaf c.args.path c.args.cube c.args.counts.now c.args.points.now c.args.spills.now c.args.progress.now.used c.in-Leaf.count c.requires.growing.growing c.in-Leaf.is in
    search rules

pub spread-requires-clause-contained : goal.spread-requires-clause-contained
spread-requires-clause-contained t c =
    part_contained c.requires.growing.root c.requires.growing.points c.requires.growing.batch c.args.leaf c.args.path c.args.cube c.args.counts.now c.args.points.now c.args.spills.now c.args.progress.now.used c.requires.growing.growing

pub spread-requires-clause-splits : goal.spread-requires-clause-splits
spread-requires-clause-splits t c =
    let node : IsInnerNode c.args.cube c.in-Inner.children = inner_node c.requires.growing.root c.requires.growing.points c.requires.growing.batch c.args.leaf c.args.path c.args.cube c.args.counts.now c.args.points.now c.args.spills.now c.args.progress.now.used c.in-Inner.count c.in-Inner.children c.requires.growing.growing c.in-Inner.is in
    node.splits

pub overflow_cast-octant : goal.overflow_cast-octant
overflow_cast-octant t c =
    let node : IsInnerNode c.args.cube c.in-Inner.children = inner_node c.requires.growing.root c.requires.growing.points c.requires.growing.batch c.args.leaf c.args.path c.args.cube c.args.counts.now c.args.points.now c.args.spills.now c.args.progress.now.used c.in-Inner.count c.in-Inner.children c.requires.growing.growing c.in-Inner.is in
    let low : c.loop-g.g < 8 = omega (arith, node.eight, ap length c.as_slice-below-items.ensures, c.loop-g-test.true) in
    search rules

pub child-requires-clause-below : goal.child-requires-clause-below
child-requires-clause-below t c =
    let node : IsInnerNode c.args.cube c.in-Inner.children = inner_node c.requires.growing.root c.requires.growing.points c.requires.growing.batch c.args.leaf c.args.path c.args.cube c.args.counts.now c.args.points.now c.args.spills.now c.args.progress.now.used c.in-Inner.count c.in-Inner.children c.requires.growing.growing c.in-Inner.is in
    omega (arith, node.eight, ap length c.as_slice-below-items.ensures, c.loop-g-test.true)

pub child-requires-clause-room : goal.child-requires-clause-room
child-requires-clause-room t c =
    let node : IsInnerNode c.args.cube c.in-Inner.children = inner_node c.requires.growing.root c.requires.growing.points c.requires.growing.batch c.args.leaf c.args.path c.args.cube c.args.counts.now c.args.points.now c.args.spills.now c.args.progress.now.used c.in-Inner.count c.in-Inner.children c.requires.growing.growing c.in-Inner.is in
    omega (arith, node.splits, c.requires.room)

pub child-requires-in-loop-g-clause-below : goal.child-requires-in-loop-g-clause-below
child-requires-in-loop-g-clause-below t c =
    let node : IsInnerNode c.args.cube c.in-Inner.children = inner_node c.requires.growing.root c.requires.growing.points c.requires.growing.batch c.args.leaf c.args.path c.args.cube c.args.counts.now c.args.points.now c.args.spills.now c.args.progress.now.used c.in-Inner.count c.in-Inner.children c.requires.growing.growing c.in-Inner.is in
    omega (arith, node.eight, ap length c.as_slice-below-items.ensures, c.loop-g-test.true)

pub child-requires-in-loop-g-clause-splits : goal.child-requires-in-loop-g-clause-splits
child-requires-in-loop-g-clause-splits t c =
    let node : IsInnerNode c.args.cube c.in-Inner.children = inner_node c.requires.growing.root c.requires.growing.points c.requires.growing.batch c.args.leaf c.args.path c.args.cube c.args.counts.now c.args.points.now c.args.spills.now c.args.progress.now.used c.in-Inner.count c.in-Inner.children c.requires.growing.growing c.in-Inner.is in
    node.splits

pub index-requires : goal.index-requires
index-requires t c =
    let node : IsInnerNode c.args.cube c.in-Inner.children = inner_node c.requires.growing.root c.requires.growing.points c.requires.growing.batch c.args.leaf c.args.path c.args.cube c.args.counts.now c.args.points.now c.args.spills.now c.args.progress.now.used c.in-Inner.count c.in-Inner.children c.requires.growing.growing c.in-Inner.is in
    let low : c.loop-g.g < 8 = omega (arith, node.eight, ap length c.as_slice-below-items.ensures, c.loop-g-test.true) in
    omega (arith, low, eight_lists vec_items c.args.cube c.args.points.now c.in_ok-lists-in-Inner.lists.items c.in_ok-lists-in-Inner.ensures)

pub grow-requires : goal.grow-requires
grow-requires t c =
    let node : IsInnerNode c.args.cube c.in-Inner.children = inner_node c.requires.growing.root c.requires.growing.points c.requires.growing.batch c.args.leaf c.args.path c.args.cube c.args.counts.now c.args.points.now c.args.spills.now c.args.progress.now.used c.in-Inner.count c.in-Inner.children c.requires.growing.growing c.in-Inner.is in
    let low : c.loop-g.g < 8 = omega (arith, node.eight, ap length c.as_slice-below-items.ensures, c.loop-g-test.true) in
    let part : c.as_slice-in-loop-g.result.now ≡ inside (child c.args.cube c.loop-g.g) c.args.points.now =
    c.as_slice-in-loop-g.ensures.value ∙ list_of_child vec_items c.args.cube c.args.points.now c.in_ok-lists-in-Inner.lists.items c.loop-g.g c.index.result.now c.in_ok-lists-in-Inner.ensures low c.index.ensures in
    let bits : c.child-in-loop-g.result.bits ≡ c.args.cube.bits - 1 = ap (λ (k : CubeValue). k.bits) c.child-in-loop-g.ensures in (
      omega (arith, bits, node.splits),
      (
        record {
          root = c.requires.growing.root;
          points = c.requires.growing.points;
          batch = c.requires.growing.batch;
          growing = child_growing c.requires.growing.root c.requires.growing.points c.requires.growing.batch c.args.leaf c.args.path c.child.result c.args.cube c.child-in-loop-g.result c.args.counts.now c.args.points.now c.as_slice-in-loop-g.result.now c.args.spills.now c.args.progress.now c.loop-g.progress c.in-Inner.count c.as_slice-below-items.result.now c.loop-g.growths.items c.loop-g.places.items c.loop-g.g c.below-item.result c.requires.growing.growing (c.in-Inner.is ∙ ap (Inner c.in-Inner.count) (sym c.as_slice-below-items.ensures)) (c.loop-g.invariant c.requires.growing.root c.requires.growing.points c.requires.growing.batch c.requires.growing.growing) (slice_get_read c.as_slice-below-items.result.now (length c.as_slice-below-items.result.now) c.loop-g.g c.below-item.result refl c.loop-g-test.true c.below-item.is) c.child.ensures c.child-in-loop-g.ensures part;
        },
        omega (arith, ap length c.child.ensures, length_push c.args.path c.loop-g.g, bits, node.splits, c.requires.room),
      ),
    )

pub overflow_cast-result-in-Inner : goal.overflow_cast-result-in-Inner
overflow_cast-result-in-Inner t c =
    let low : length c.args.points.now < 2 ^ 32 = omega (arith, inner_fits c.requires.growing.root c.requires.growing.points c.requires.growing.batch c.args.leaf c.args.path c.args.cube c.args.counts.now c.args.points.now c.args.spills.now c.args.progress.now.used c.in-Inner.count c.in-Inner.children c.requires.growing.growing c.in-Inner.is) in
    search rules

pub overflow_add-result-in-Inner : goal.overflow_add-result-in-Inner
overflow_add-result-in-Inner t c =
    let low : c.in-Inner.count + length c.args.points.now < 2 ^ 32 = inner_fits c.requires.growing.root c.requires.growing.points c.requires.growing.batch c.args.leaf c.args.path c.args.cube c.args.counts.now c.args.points.now c.args.spills.now c.args.progress.now.used c.in-Inner.count c.in-Inner.children c.requires.growing.growing c.in-Inner.is in
    search rules

pub returns-in_ok-split-in-Leaf : goal.returns-in_ok-split-in-Leaf
returns-in_ok-split-in-Leaf t c =
    λ root before batch growing.
    let bits : c.cube.inside.bits ≡ c.args.cube.bits = ap (λ (x : CubeValue). x.bits) c.cube.view_is in
    let high : 7 < c.args.cube.bits = omega (arith, bits, c.if-cube-gt7.true) in
    let spill : HasSpill before c.args.cube c.args.spills.now c.args.progress.now.used = next_spill root before batch c.args.leaf c.args.path c.args.cube c.args.counts.now c.args.points.now c.args.spills.now c.args.progress.now.used c.in-Leaf.count growing c.in-Leaf.is high (omega (arith, c.if-from-points.true, c.from.ensures, c.from-then-cube-gt7.ensures)) in
    let bag : IsSameBag c.index-spills-progress.result.points.items (inside c.args.cube before) = spill.bag c.index-spills-progress.result c.index-spills-progress.is in
    let all : c.in_ok-all-in-Leaf.all.items ≡ c.index-spills-progress.result.points.items ++ c.args.points.now = c.in_ok-all-in-Leaf.ensures ∙ ap (λ (ps : List PointValue). ps ++ c.args.points.now) c.as_slice.ensures.value in
    let contained : All (λ p. IsTrue (contains c.args.cube p)) (c.index-spills-progress.result.points.items ++ c.args.points.now) =
    All-append (λ p. IsTrue (contains c.args.cube p)) _ _ (bag_inside c.args.cube c.index-spills-progress.result.points.items before bag) (part_contained root before batch c.args.leaf c.args.path c.args.cube c.args.counts.now c.args.points.now c.args.spills.now c.args.progress.now.used growing) in
    grown_split root before batch c.args.leaf c.args.path c.args.cube c.args.counts.now c.args.points.now c.args.spills.now c.args.progress.now c.split.new.progress c.in-Leaf.count c.index-spills-progress.result.points.items c.in_ok-all-in-Leaf.all.items c.in_ok-split-in-Leaf.field-0 growing c.in-Leaf.is high (omega (arith, c.if-from-points.true, c.from.ensures, c.from-then-cube-gt7.ensures)) bag all
    (subst (λ (ps : List PointValue). All (λ p. IsTrue (contains c.args.cube p)) ps) (sym all) contained) c.in_ok-split-in-Leaf.ensures.counts c.in_ok-split-in-Leaf.ensures.used c.in_ok-split-in-Leaf.ensures.splits c.in_ok-split-in-Leaf.ensures.leaves

pub returns-else-cube-gt7 : goal.returns-else-cube-gt7
returns-else-cube-gt7 t c =
    λ root before batch growing.
    let bits : c.cube.inside.bits ≡ c.args.cube.bits = ap (λ (x : CubeValue). x.bits) c.cube.view_is in
    grown_leaf root before batch c.args.leaf c.args.path c.args.cube c.args.counts.now c.args.points.now c.args.spills.now c.args.progress.now c.in-Leaf.count growing c.in-Leaf.is
    (elim c.else-cube-gt7.branch [
      | else-cube-gt7-via-then-cube-gt7+else-from-points w ↦ inl (omega (arith, w.if-from-points.false, w.from.ensures, w.from-then-cube-gt7.ensures))
      | else-cube-gt7-via-else-cube-gt7 w ↦ inr (omega (arith, bits, w.if-cube-gt7.false))
    ])

pub loop-g-preserved : goal.loop-g-preserved
loop-g-preserved t c =
    λ root before batch growing.
    let node : IsInnerNode c.args.cube c.in-Inner.children = inner_node c.requires.growing.root c.requires.growing.points c.requires.growing.batch c.args.leaf c.args.path c.args.cube c.args.counts.now c.args.points.now c.args.spills.now c.args.progress.now.used c.in-Inner.count c.in-Inner.children c.requires.growing.growing c.in-Inner.is in
    let low : c.loop-g.g < 8 = omega (arith, node.eight, ap length c.as_slice-below-items.ensures, c.loop-g-test.true) in
    let part : c.as_slice-in-loop-g.result.now ≡ inside (child c.args.cube c.loop-g.g) c.args.points.now =
    c.as_slice-in-loop-g.ensures.value ∙ list_of_child vec_items c.args.cube c.args.points.now c.in_ok-lists-in-Inner.lists.items c.loop-g.g c.index.result.now c.in_ok-lists-in-Inner.ensures low c.index.ensures in
    half_goes_on root before batch c.args.leaf c.args.path c.child.result c.args.cube c.child-in-loop-g.result c.args.counts.now c.args.points.now c.args.spills.now c.args.progress.now c.loop-g.progress c.grow.new.progress c.in-Inner.count c.as_slice-below-items.result.now c.loop-g.growths.items _ c.loop-g.places.items _ c.loop-g.g c.below-item.result _ _ growing (c.in-Inner.is ∙ ap (Inner c.in-Inner.count) (sym c.as_slice-below-items.ensures)) (c.loop-g.invariant root before batch growing) (slice_get_read c.as_slice-below-items.result.now (length c.as_slice-below-items.result.now) c.loop-g.g c.below-item.result refl c.loop-g-test.true c.below-item.is) c.child.ensures c.child-in-loop-g.ensures
    (c.in_ok-grow-in-Inner.ensures root before batch (child_growing root before batch c.args.leaf c.args.path c.child.result c.args.cube c.child-in-loop-g.result c.args.counts.now c.args.points.now c.as_slice-in-loop-g.result.now c.args.spills.now c.args.progress.now c.loop-g.progress c.in-Inner.count c.as_slice-below-items.result.now c.loop-g.growths.items c.loop-g.places.items c.loop-g.g c.below-item.result growing (c.in-Inner.is ∙ ap (Inner c.in-Inner.count) (sym c.as_slice-below-items.ensures)) (c.loop-g.invariant root before batch growing) (slice_get_read c.as_slice-below-items.result.now (length c.as_slice-below-items.result.now) c.loop-g.g c.below-item.result refl c.loop-g-test.true c.below-item.is) c.child.ensures c.child-in-loop-g.ensures part)) c.in_ok-push-in-Inner.ensures.items c.in_ok-push-in-Inner-2.ensures.items

pub returns-after-loop-g : goal.returns-after-loop-g
returns-after-loop-g t c =
    λ root before batch growing.
    let node : IsInnerNode c.args.cube c.in-Inner.children = inner_node c.requires.growing.root c.requires.growing.points c.requires.growing.batch c.args.leaf c.args.path c.args.cube c.args.counts.now c.args.points.now c.args.spills.now c.args.progress.now.used c.in-Inner.count c.in-Inner.children c.requires.growing.growing c.in-Inner.is in
    grown_whole root before batch c.args.leaf c.args.path c.args.cube c.args.counts.now c.args.points.now c.args.spills.now c.args.progress.now c.loop-g.progress c.in-Inner.count _ c.as_slice-below-items.result.now c.loop-g.growths.items c.from_vec.result c.loop-g.places.items c.from_vec-in-Inner.result c.loop-g.g growing (c.in-Inner.is ∙ ap (Inner c.in-Inner.count) (sym c.as_slice-below-items.ensures)) (c.loop-g.invariant root before batch growing) (omega (arith, c.loop-g-test.false)) (omega (arith, c.loop-g.auto.g-end, node.eight, ap length c.as_slice-below-items.ensures)) refl c.from_vec.ensures c.from_vec-in-Inner.ensures

pub loop-g-init : goal.loop-g-init
loop-g-init t c =
    λ root before batch growing. half_begins root before batch c.args.leaf c.args.path c.args.cube c.args.counts.now c.args.points.now c.args.spills.now c.args.progress.now c.in-Inner.count c.as_slice-below-items.result.now c.in_ok-growths-in-Inner.growths.items c.in_ok-places-in-Inner.places.items growing (c.in-Inner.is ∙ ap (Inner c.in-Inner.count) (sym c.as_slice-below-items.ensures)) c.in_ok-growths-in-Inner.ensures.items c.in_ok-places-in-Inner.ensures.items
