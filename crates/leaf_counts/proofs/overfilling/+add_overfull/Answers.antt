use Rattle.std.proofs.Common.{◌≡◌, ◌-◌, ◌<◌, ◌++◌, ℕ, ap, sym, ◌∙◌, map, arith, length, rules, List, get_or, subst, refl, vec_items}
use Rattle.std.proofs.lemmas.List.{append-nil, length_push}
use Rattle.cube_math.specs.Cubes.{CubeValue, child, contains}
use Rattle.octree_model.specs.Octree.{inside}
use Rattle.std.proofs.lemmas.List.Elements.{filter_passes}
use Rattle.leaf_counts.specs.declared.counts.Counts.{Counts, Inner}
use Rattle.leaf_counts.specs.Overfull.{IsCountedBy, overfull}
use Rattle.leaf_counts.proofs.OverfullLaws.{not_overfull, IsInnerBy, inner_by, no_items, list_of_child, eight_lists, child_part, one_child_more}
use Rattle.std.proofs.lemmas.Option.{slice_get_read}
use Rattle.leaf_counts.proofs.overfilling.+add_overfull.Goals as goal

pub returns-then-is_empty : goal.returns-then-is_empty
returns-then-is_empty t c = λ batch part.
    sym (ap (λ (l : List (List ℕ)). c.args.paths.now.items ++ map (λ steps. c.args.path ++ steps) l) (not_overfull c.args.leaf c.args.cube c.args.counts.now batch c.requires.counted (part ∙ no_items c.args.points.now c.if-is_empty.ensures)) ∙ append-nil c.args.paths.now.items)

pub spread-requires-clause-splits : goal.spread-requires-clause-splits
spread-requires-clause-splits t c = (inner_by _ _ _ _ _ c.requires.counted c.in-Inner.is).splits

pub overflow_cast-octant : goal.overflow_cast-octant
overflow_cast-octant t c =
    let inner : IsInnerBy c.args.leaf c.args.cube c.in-Inner.children = inner_by _ _ _ _ _ c.requires.counted c.in-Inner.is in
    let low : c.loop-g.g < 8 = omega (arith, inner.eight, ap length c.as_slice-below-items.ensures, c.loop-g-test.true) in
    search rules

pub child-requires-clause-below : goal.child-requires-clause-below
child-requires-clause-below t c =
    let inner : IsInnerBy c.args.leaf c.args.cube c.in-Inner.children = inner_by _ _ _ _ _ c.requires.counted c.in-Inner.is in
    omega (arith, inner.eight, ap length c.as_slice-below-items.ensures, c.loop-g-test.true)

pub child-requires-clause-room : goal.child-requires-clause-room
child-requires-clause-room t c =
    let inner : IsInnerBy c.args.leaf c.args.cube c.in-Inner.children = inner_by _ _ _ _ _ c.requires.counted c.in-Inner.is in
    omega (arith, inner.splits, c.requires.room)

pub child-requires-in-loop-g-clause-below : goal.child-requires-in-loop-g-clause-below
child-requires-in-loop-g-clause-below t c =
    let inner : IsInnerBy c.args.leaf c.args.cube c.in-Inner.children = inner_by _ _ _ _ _ c.requires.counted c.in-Inner.is in
    omega (arith, inner.eight, ap length c.as_slice-below-items.ensures, c.loop-g-test.true)

pub child-requires-in-loop-g-clause-splits : goal.child-requires-in-loop-g-clause-splits
child-requires-in-loop-g-clause-splits t c = (inner_by _ _ _ _ _ c.requires.counted c.in-Inner.is).splits

pub index-requires : goal.index-requires
index-requires t c =
    let inner : IsInnerBy c.args.leaf c.args.cube c.in-Inner.children = inner_by _ _ _ _ _ c.requires.counted c.in-Inner.is in
    omega (arith, inner.eight, ap length c.as_slice-below-items.ensures, c.loop-g-test.true, eight_lists vec_items c.args.cube c.args.points.now c.in_ok-lists-in-Inner.lists.items c.in_ok-lists-in-Inner.ensures)

pub add_overfull-requires : goal.add_overfull-requires
add_overfull-requires t c =
    let inner : IsInnerBy c.args.leaf c.args.cube c.in-Inner.children = inner_by _ _ _ _ _ c.requires.counted c.in-Inner.is in
    let low : c.loop-g.g < 8 = omega (arith, inner.eight, ap length c.as_slice-below-items.ensures, c.loop-g-test.true) in
    let at : c.below-item.result ≡ get_or c.in-Inner.children c.loop-g.g c.below-item.result =
    c.below-item.is ∙ ap (λ (ts : List Counts). get_or ts c.loop-g.g c.below-item.result) c.as_slice-below-items.ensures in
    let P : CubeValue → Type 0 = λ cube. IsCountedBy c.args.leaf cube c.below-item.result in
    let bits : c.child-in-loop-g.result.bits ≡ c.args.cube.bits - 1 = ap (λ (k : CubeValue). k.bits) c.child-in-loop-g.ensures in
    let part : c.as_slice.result.now ≡ inside (child c.args.cube c.loop-g.g) c.args.points.now =
    c.as_slice.ensures.value ∙ list_of_child vec_items c.args.cube c.args.points.now c.in_ok-lists-in-Inner.lists.items c.loop-g.g c.index.result.now c.in_ok-lists-in-Inner.ensures low c.index.ensures in (
      omega (arith, bits, inner.splits),
      (
        subst P (sym c.child-in-loop-g.ensures) (inner.below c.loop-g.g c.below-item.result low at),
        (
          omega (arith, ap length c.child.ensures, length_push c.args.path c.loop-g.g, bits, inner.splits, c.requires.room),
          rw (part, c.child-in-loop-g.ensures) (filter_passes (contains (child c.args.cube c.loop-g.g)) c.args.points.now),
        ),
      ),
    )

pub loop-g-preserved : goal.loop-g-preserved
loop-g-preserved t c = λ batch part.
    let inner : IsInnerBy c.args.leaf c.args.cube c.in-Inner.children = inner_by _ _ _ _ _ c.requires.counted c.in-Inner.is in
    let low : c.loop-g.g < 8 = omega (arith, inner.eight, ap length c.as_slice-below-items.ensures, c.loop-g-test.true) in
    let at : c.below-item.result ≡ get_or c.in-Inner.children c.loop-g.g c.below-item.result =
    c.below-item.is ∙ ap (λ (ts : List Counts). get_or ts c.loop-g.g c.below-item.result) c.as_slice-below-items.ensures in
    let list : c.as_slice.result.now ≡ inside (child c.args.cube c.loop-g.g) c.args.points.now =
    c.as_slice.ensures.value ∙ list_of_child vec_items c.args.cube c.args.points.now c.in_ok-lists-in-Inner.lists.items c.loop-g.g c.index.result.now c.in_ok-lists-in-Inner.ensures low c.index.ensures in
    let pushed : c.add_overfull.new.paths.items ≡ c.loop-g.paths.items ++ map (λ steps. c.child.result ++ steps) (overfull c.args.leaf c.child-in-loop-g.result c.below-item.result batch) =
    c.in_ok-add_overfull-in-Inner.ensures batch (child_part c.args.cube c.child-in-loop-g.result c.loop-g.g batch c.args.points.now (omega (arith, inner.splits)) low c.child-in-loop-g.ensures part ∙ sym list) in
    one_child_more c.args.leaf c.args.cube c.child-in-loop-g.result c.args.counts.now c.in-Inner.field-0 c.as_slice-below-items.result.now batch c.args.path c.child.result c.loop-g.g c.below-item.result _ _ _
    (c.in-Inner.is ∙ ap (Inner c.in-Inner.field-0) (sym c.as_slice-below-items.ensures))
    (slice_get_read c.as_slice-below-items.result.now (length c.as_slice-below-items.result.now) c.loop-g.g c.below-item.result refl c.loop-g-test.true c.below-item.is)
    c.child.ensures c.child-in-loop-g.ensures pushed (c.loop-g.invariant batch part)
