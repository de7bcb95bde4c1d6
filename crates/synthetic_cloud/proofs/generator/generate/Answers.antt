use Rattle.std.proofs.Common.{◌∙◌, sym, refl}
use Rattle.synthetic_cloud.proofs.Generation.{AreNext, next_three, none_generated, one_more}
use Rattle.synthetic_cloud.proofs.generator.generate.Goals as goal

pub loop-point-init : goal.loop-point-init
loop-point-init c = record { state = refl; points = c.in_ok-points.ensures.items ∙ sym (none_generated c.args.seed) }

pub loop-point-preserved : goal.loop-point-preserved
loop-point-preserved c =
    let three : AreNext c.args.seed c.loop-point._point c.loop-point.state c.turn-first.result c.turn-second.result c.turn-third.result =
    next_three c.args.seed c.loop-point._point c.loop-point.state _ _ _ c.loop-point.invariant.state c.turn-first.ensures c.turn-second.ensures c.turn-third.ensures in
    record {
      state = three.third;
      points = c.in_ok-push.ensures.items ∙ one_more c.args.seed c.loop-point._point _ _ c.loop-point.invariant.points (c.point_of.ensures ∙ three.point);
    }
