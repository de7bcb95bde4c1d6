use Rattle.std.specs.Int.{int_min, int_max}
use Rattle.octree_plain.proofs.FittingLaws.{one_more}
use Rattle.octree_plain.proofs.fitting.extents_of.Goals as goal

pub loop-p-preserved : goal.loop-p-preserved
loop-p-preserved c =
    let before = c.loop-p.invariant in
    let with = c.with-all.ensures in
    record {
      x_least = one_more int_min (λ p. p.x) _ _ _ c.in-Some.rest.now _ c.p-item.result c.loop-p-test.true c.p-item.is before.x_least with.x.0;
      x_greatest = one_more int_max (λ p. p.x) _ _ _ c.in-Some.rest.now _ c.p-item.result c.loop-p-test.true c.p-item.is before.x_greatest with.x.1;
      y_least = one_more int_min (λ p. p.y) _ _ _ c.in-Some.rest.now _ c.p-item.result c.loop-p-test.true c.p-item.is before.y_least with.y.0;
      y_greatest = one_more int_max (λ p. p.y) _ _ _ c.in-Some.rest.now _ c.p-item.result c.loop-p-test.true c.p-item.is before.y_greatest with.y.1;
      z_least = one_more int_min (λ p. p.z) _ _ _ c.in-Some.rest.now _ c.p-item.result c.loop-p-test.true c.p-item.is before.z_least with.z.0;
      z_greatest = one_more int_max (λ p. p.z) _ _ _ c.in-Some.rest.now _ c.p-item.result c.loop-p-test.true c.p-item.is before.z_greatest with.z.1;
    }
