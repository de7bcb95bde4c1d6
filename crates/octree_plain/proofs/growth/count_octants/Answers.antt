use Rattle.std.proofs.Common.{arith, rules, refl, ◌∙◌}
use Rattle.octree_plain.proofs.SpreadLaws.{count_more, few_counted}
use Rattle.octree_plain.proofs.growth.count_octants.Goals as goal

pub overflow_add-counts : goal.overflow_add-counts
overflow_add-counts c = omega (arith, few_counted c.args.cube.now c.args.points.now c.loop-p.p-index c.from.result c.loop-p.counts (omega arith) (omega (arith, c.octant.ensures.below)) c.loop-p.invariant)

pub loop-p-preserved : goal.loop-p-preserved
loop-p-preserved c =
    count_more c.args.cube.now c.args.points.now c.loop-p.p-index c.from.result _ c.p-item.result c.loop-p.counts (omega arith) (omega arith) c.p-item.is
    (search rules) (c.from.ensures ∙ c.octant.ensures.value) (omega (arith, c.octant.ensures.below)) c.loop-p.invariant refl
