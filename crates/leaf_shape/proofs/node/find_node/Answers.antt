use Rattle.std.proofs.Common.{◌+◌, ◌<◌, length, subst, sym, arith}
use Rattle.leaf_shape.proofs.FindLaws.{IsWayTo, way_begins, way_ends, way_goes_on, way_is_lost}
use Rattle.leaf_shape.proofs.node.find_node.Goals as goal

pub loop-step-init : goal.loop-step-init
loop-step-init c = way_begins c.args.nodes.now c.args.path.now c.requires.tree

pub returns-in_default : goal.returns-in_default
returns-in_default c =
    let less : c.loop-step.step < length c.args.path.now = omega arith in
    sym (way_is_lost c.args.nodes.now c.args.path.now c.loop-step.step c.loop-step.node c.loop-step.invariant less c.in_default.is)

pub loop-step-preserved : goal.loop-step-preserved
loop-step-preserved c =
    subst (λ n. IsWayTo c.args.nodes.now c.args.path.now (c.loop-step.step + 1) (c.in-Some.first + n)) (sym c.from.ensures)
    (way_goes_on c.args.nodes.now c.args.path.now c.loop-step.step c.loop-step.node c.octant.result c.in-Some.first c.requires.tree c.loop-step.invariant
    c.octant.ensures.value c.octant.ensures.below c.in-Some.is)

pub returns : goal.returns
returns c = sym (way_ends c.args.nodes.now c.args.path.now c.loop-step.step c.loop-step.node c.loop-step.invariant (omega arith))
