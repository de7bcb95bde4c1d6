use Rattle.std.proofs.Common.{◌≡◌, ◌<◌, ◌-◌, ◌+◌, ◌^◌, ◌∙◌, ◌++◌, ◌∷◌, ap, sym, arith, rules, length, List, drop, vec_items}
use Rattle.std.proofs.lemmas.List.Elements.{filter_passes}
use Rattle.std.proofs.lemmas.Result.{IfOk-weaker}
use Rattle.cube_math.specs.Cubes.{CubeValue, contains, child}
use Rattle.cube_math.specs.Points.{PointValue}
use Rattle.octree_model.specs.Octree.{inside}
use Rattle.octree_model.proofs.ShapeLaws.{few_inside}
use Rattle.octree_plain.proofs.Children.{next_child, no_child, NextChild}
use Rattle.least_runs.proofs.RunLaws.{nears_of_both}
use Rattle.voxel_sampler.specs.Nears.{NearValue, least_nears, nears}
use Rattle.batch_levels.specs.declared.level.InnerLevel.{InnerLevel}
use Rattle.batch_levels.specs.declared.level.Level.{Level}
use Rattle.batch_levels.specs.Levels.{level_of}
use Rattle.batch_levels.proofs.LevelLaws.{IsInnerOf}
use Rattle.batch_levels.proofs.GrownLaws.{old_below, new_below, leaf_before, all_contained, all_few, grown_leaf, inner_before, half_begins, in_front, front_there, front_is, front_gone, child_room, one_grown, grown_inner}
use Rattle.batch_levels.proofs.growing.+grown.Goals as goal

pub made-requires-clause-contained : goal.made-requires-clause-contained
made-requires-clause-contained t c =
    all_contained c.args.cube c.requires.room.points c.in-Leaf.kept c.args.points.now c.append.new.self (leaf_before c.args.leaf c.args.cube c.requires.room.points c.in-Leaf.kept c.args.level c.requires.room.is c.in-Leaf.is) c.requires.contained
    (c.in_ok-append-in-Leaf.ensures ∙ ap (λ (ps : List PointValue). c.in-Leaf.kept ++ ps) c.in_ok-from_slice-in-Leaf.ensures)

pub made-requires-clause-few : goal.made-requires-clause-few
made-requires-clause-few t c =
    all_few c.args.cube c.requires.room.points c.in-Leaf.kept c.args.points.now c.append.new.self (leaf_before c.args.leaf c.args.cube c.requires.room.points c.in-Leaf.kept c.args.level c.requires.room.is c.in-Leaf.is)
    (c.in_ok-append-in-Leaf.ensures ∙ ap (λ (ps : List PointValue). c.in-Leaf.kept ++ ps) c.in_ok-from_slice-in-Leaf.ensures) c.requires.room.few

pub returns-in_ok-append-in-Leaf : goal.returns-in_ok-append-in-Leaf
returns-in_ok-append-in-Leaf t c =
    λ before is. IfOk-weaker c.made.result (λ level. level ≡ level_of c.args.leaf c.args.cube c.append.new.self) (λ after. after ≡ level_of c.args.leaf c.args.cube (before ++ c.args.points.now))
    (λ after made. grown_leaf c.args.leaf c.args.cube before c.in-Leaf.kept c.args.points.now c.append.new.self after (leaf_before c.args.leaf c.args.cube before c.in-Leaf.kept c.args.level is c.in-Leaf.is)
    (c.in_ok-append-in-Leaf.ensures ∙ ap (λ (ps : List PointValue). c.in-Leaf.kept ++ ps) c.in_ok-from_slice-in-Leaf.ensures) made) c.made.ensures

pub run_of-requires-clause-splits : goal.run_of-requires-clause-splits
run_of-requires-clause-splits t c = (inner_before c.args.leaf c.args.cube c.requires.room.points c.in-Inner.inner c.args.level c.requires.room.is c.in-Inner.is).splits

pub spread-requires-clause-splits : goal.spread-requires-clause-splits
spread-requires-clause-splits t c = (inner_before c.args.leaf c.args.cube c.requires.room.points c.in-Inner.inner c.args.level c.requires.room.is c.in-Inner.is).splits

pub child-requires-clause-splits : goal.child-requires-clause-splits
child-requires-clause-splits t c = (inner_before c.args.leaf c.args.cube c.requires.room.points c.in-Inner.inner c.args.level c.requires.room.is c.in-Inner.is).splits

pub loop-list-init : goal.loop-list-init
loop-list-init t c = record {
  below = omega arith;
  rest = ap (λ (l : List (List PointValue)). l) (search rules);
  grown = λ before is. half_begins c.args.leaf c.args.cube before c.args.points.now c.in-Inner.inner (inner_before c.args.leaf c.args.cube before c.in-Inner.inner c.args.level is c.in-Inner.is);
}

pub remove-below-requires : goal.remove-below-requires
remove-below-requires t c =
    let before : List PointValue = c.requires.room.points in
    let n : NextChild vec_items c.args.cube c.args.points.now c.loop-list.g c.in-Some.list c.next.new.self.rest.items = next_child vec_items c.args.cube c.args.points.now c.loop-list.g _ _ _ c.loop-list.invariant.rest c.in-Some.ensures.steps.0 in
    front_there _ _ c.loop-list.levels (in_front c.args.leaf c.args.cube before c.loop-list.g (new_below c.args.leaf c.args.cube before c.args.points.now c.loop-list.g) c.loop-list.levels n.below (c.loop-list.invariant.grown before c.requires.room.is))

pub grown-requires : goal.grown-requires
grown-requires t c =
    let before : List PointValue = c.requires.room.points in
    let n : NextChild vec_items c.args.cube c.args.points.now c.loop-list.g c.in-Some.list c.next.new.self.rest.items = next_child vec_items c.args.cube c.args.points.now c.loop-list.g _ _ _ c.loop-list.invariant.rest c.in-Some.ensures.steps.0 in
    let inner : IsInnerOf c.args.leaf c.args.cube before c.in-Inner.inner = inner_before c.args.leaf c.args.cube before c.in-Inner.inner c.args.level c.requires.room.is c.in-Inner.is in
    let d : c.child.result.bits ≡ c.args.cube.bits - 1 = ap (λ (x : CubeValue). x.bits) c.child.ensures in
    let part : c.as_slice-points.result.now ≡ inside (child c.args.cube c.loop-list.g) c.args.points.now = c.as_slice-points.ensures.value ∙ n.is in
    let here : c.remove-below.result ≡ level_of c.args.leaf (child c.args.cube c.loop-list.g) (inside c.args.cube before) =
    front_is _ _ _ c.loop-list.levels (in_front c.args.leaf c.args.cube before c.loop-list.g (new_below c.args.leaf c.args.cube before c.args.points.now c.loop-list.g) c.loop-list.levels n.below (c.loop-list.invariant.grown before c.requires.room.is)) c.remove-below.ensures.item in (
      omega (arith, d, inner.splits),
      (
        child_room c.args.leaf c.args.cube c.child.result before c.args.points.now c.as_slice-points.result.now c.loop-list.g c.remove-below.result c.child.ensures here part c.requires.room.few,
        rw (part, c.child.ensures) (filter_passes (contains (child c.args.cube c.loop-list.g)) c.args.points.now),
      ),
    )

pub loop-list-preserved : goal.loop-list-preserved
loop-list-preserved t c =
    let n : NextChild vec_items c.args.cube c.args.points.now c.loop-list.g c.in-Some.list c.next.new.self.rest.items = next_child vec_items c.args.cube c.args.points.now c.loop-list.g _ _ _ c.loop-list.invariant.rest c.in-Some.ensures.steps.0 in
    let part : c.as_slice-points.result.now ≡ inside (child c.args.cube c.loop-list.g) c.args.points.now = c.as_slice-points.ensures.value ∙ n.is in
    record {
      below = omega (arith, n.below);
      rest = n.left;
      grown = λ before is.
          let done : List Level = new_below c.args.leaf c.args.cube before c.args.points.now c.loop-list.g in
          let front : c.loop-list.levels ≡ level_of c.args.leaf (child c.args.cube c.loop-list.g) (inside c.args.cube before) ∷ (drop (c.loop-list.g + 1) (old_below c.args.leaf c.args.cube before) ++ done) =
          in_front c.args.leaf c.args.cube before c.loop-list.g done c.loop-list.levels n.below (c.loop-list.invariant.grown before is) in
          let here : c.remove-below.result ≡ level_of c.args.leaf (child c.args.cube c.loop-list.g) (inside c.args.cube before) = front_is _ _ _ c.loop-list.levels front c.remove-below.ensures.item in
          one_grown c.args.leaf c.args.cube c.child.result before c.args.points.now c.as_slice-points.result.now c.loop-list.g c.in_ok-grown-in-Inner.field-0 c.remove-below.new.self c.push.new.self c.child.ensures part
          (front_gone _ _ c.loop-list.levels c.remove-below.new.self front c.remove-below.ensures.rest) c.in_ok-push-in-Inner.ensures.ok
          (c.in_ok-grown-in-Inner.ensures (inside c.args.cube before) (here ∙ ap (λ (k : CubeValue). level_of c.args.leaf k (inside c.args.cube before)) (sym c.child.ensures)));
    }

pub overflow_add-result : goal.overflow_add-result
overflow_add-result t c =
    let inner : IsInnerOf c.args.leaf c.args.cube c.requires.room.points c.in-Inner.inner = inner_before c.args.leaf c.args.cube c.requires.room.points c.in-Inner.inner c.args.level c.requires.room.is c.in-Inner.is in
    let low : c.in-Inner.inner.count + length c.args.points.now < 2 ^ 32 = omega (arith, ap (λ (n : InnerLevel). n.count) inner.is, few_inside c.args.cube c.requires.room.points, c.requires.room.few) in
    search rules

pub returns-in-None : goal.returns-in-None
returns-in-None t c =
    λ before is.
    let inner : IsInnerOf c.args.leaf c.args.cube before c.in-Inner.inner = inner_before c.args.leaf c.args.cube before c.in-Inner.inner c.args.level is c.in-Inner.is in
    let long : length c.loop-list.list-iterator.rest.items ≡ 0 = omega (arith, c.in-None.ensures.steps.0, c.loop-list.list-iterator.rest.ok) in
    let end : c.loop-list.g ≡ 8 = omega (arith, c.loop-list.invariant.below, no_child vec_items c.args.cube c.args.points.now c.loop-list.g _ c.loop-list.invariant.rest long) in
    let keys : c.in-Inner.inner.runs ≡ nears c.args.cube (inside c.args.cube before) = ap (λ (n : InnerLevel). n.runs) inner.is in
    grown_inner c.args.leaf c.args.cube before c.args.points.now c.in-Inner.inner c.loop-list.g _ c.add.new.self c.loop-list.levels inner c.requires.contained (omega arith)
    (c.in_ok-add-in-Inner.ensures ∙ (λ i. least_nears (keys i ++ c.in_ok-run-in-Inner.ensures.run i)) ∙ nears_of_both c.args.cube (inside c.args.cube before) c.args.points.now)
    end (c.loop-list.invariant.grown before is)
