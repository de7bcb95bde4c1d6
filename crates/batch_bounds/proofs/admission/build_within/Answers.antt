use Rattle.std.proofs.Common.{subst, length}
use Rattle.batch_bounds.specs.Stops.{IsFirst, early_at, outside_at, points_at}
use Rattle.batch_bounds.proofs.AdmissionLaws.{due}
use Rattle.batch_bounds.proofs.admission.build_within.Goals as goal

pub first_before-requires-clause-stop : goal.first_before-requires-clause-stop
first_before-requires-clause-stop c bs cut =
    subst (IsFirst (early_at c.args.cube.now c.args.limits.now.points bs) (length bs)) c.in-Some.is
    (c.earlier.ensures (outside_at c.args.cube.now bs) (points_at c.args.limits.now.points bs) (length bs) (c.first_outside_batch-outside.ensures bs cut) (c.first_too_many.ensures c.args.points.now bs cut))

pub build_all-requires-clause-none : goal.build_all-requires-clause-none
build_all-requires-clause-none c bs cut =
    subst (IsFirst (early_at c.args.cube.now c.args.limits.now.points bs) (length bs)) c.in-None.is
    (c.earlier.ensures (outside_at c.args.cube.now bs) (points_at c.args.limits.now.points bs) (length bs) (c.first_outside_batch-outside.ensures bs cut) (c.first_too_many.ensures c.args.points.now bs cut))

pub returns-in-Ok-clause-refused : goal.returns-in-Ok-clause-refused
returns-in-Ok-clause-refused c bs cut = due c.args.cube.now c.args.limits.now bs c.in-Ok.first (c.in-Ok.ensures bs cut)
