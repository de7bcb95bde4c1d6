use Rattle.std.proofs.Common.{[], ap, sym, arith}
use Rattle.leaf_counts.specs.Skeletons.{SkeletonValue}
use Rattle.batch_levels.proofs.AddLaws.{no_levels, all_after}
use Rattle.batch_levels.proofs.levels.Levels.new.Goals as goal

pub invariant_of-result : goal.invariant_of-result
invariant_of-result c = (
  record { points = []; all = all_after _ c.args.leaf c.args.cube [] (no_levels c.args.leaf c.args.cube c.in_ok-new.field-0 c.new-2.result c.in_ok-new.ensures c.new-2.ensures) (omega arith) },
  sym (ap (λ (s : SkeletonValue). s.cube) c.in_ok-new.ensures),
  sym (ap (λ (s : SkeletonValue). s.leaf) c.in_ok-new.ensures),
)

pub returns : goal.returns
returns c = no_levels c.args.leaf c.args.cube c.in_ok-new.field-0 c.new-2.result c.in_ok-new.ensures c.new-2.ensures
