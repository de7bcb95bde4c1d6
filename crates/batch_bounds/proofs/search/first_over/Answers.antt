use Rattle.std.proofs.Common.{◌≡◌, ◌+◌, ◌-◌, ◌/◌, ◌<◌, ◌≤◌, ◌∙◌, ℕ, List, take, length, get_or, ap, sym, arith}
use Rattle.std.proofs.lemmas.List.{length-take-le}
use Rattle.cube_math.specs.Points.{PointValue}
use Rattle.octree_model.specs.Counts.{nodes}
use Rattle.octree_model.specs.Octree.{octree}
use Rattle.batch_bounds.proofs.SearchLaws.{end_there, last_end, nodes_upto, nodes_stop}
use Rattle.batch_bounds.proofs.search.first_over.Goals as goal

pub loop-low-init : goal.loop-low-init
loop-low-init c =
    let last : take (get_or c.args.ends.now (length c.args.ends.now - 1) 0) c.args.points.now ≡ c.args.points.now = last_end c.args.points.now c.args.ends.now c.requires.cut.batches c.requires.cut.is c.requires.some in
    record {
      within = omega (arith, c.requires.some);
      ordered = omega arith;
      need = c.requires.need ∙ ap (λ (ps : List PointValue). nodes (octree c.args.limits.now.leaf c.args.cube.now ps)) (sym last);
      over = c.requires.over;
      below = λ i l. absurd (omega arith);
    }

pub slice_bounds-nodes_of-end : goal.slice_bounds-nodes_of-end
slice_bounds-nodes_of-end c =
    sym (length-take-le _ c.args.points.now (end_there c.args.points.now c.args.ends.now c.requires.cut.batches (c.loop-low.low + (c.loop-low.high - c.loop-low.low) / 2) c.requires.cut.is (omega (arith, c.loop-low.invariant.within, c.loop-low-test.true))))

pub loop-low-preserved : goal.loop-low-preserved
loop-low-preserved c =
    let middle : ℕ = c.loop-low.low + (c.loop-low.high - c.loop-low.low) / 2 in
    let before : middle < c.loop-low.high = omega (arith, c.loop-low-test.true) in
    record {
      within = c.loop-low.invariant.within;
      ordered = omega (arith, before);
      need = c.loop-low.invariant.need;
      over = c.loop-low.invariant.over;
      below = λ i l.
          let few : nodes (octree c.args.limits.now.leaf c.args.cube.now (take (get_or c.args.ends.now middle 0) c.args.points.now)) ≤ c.args.limits.now.nodes = omega (arith, c.in_ok-nodes.ensures, c.if-nodes-from.false, c.from.ensures) in
          omega (arith, few, nodes_upto c.args.limits.now.leaf c.args.cube.now c.args.points.now c.args.ends.now c.requires.cut.batches i middle c.requires.cut.is (omega (arith, before, c.loop-low.invariant.within)) (omega arith));
    }

pub returns : goal.returns
returns c bs cut =
    let met : c.loop-low.low ≡ c.loop-low.high = omega (arith, c.loop-low.invariant.ordered, c.loop-low-test.false) in
    nodes_stop c.args.limits.now.leaf c.args.limits.now.nodes c.args.cube.now c.args.points.now c.args.ends.now bs c.loop-low.high c.loop-low.need cut c.loop-low.invariant.within c.loop-low.invariant.need c.loop-low.invariant.over
    (λ i l. c.loop-low.invariant.below i (omega (arith, met)))
