use Rattle.std.proofs.Common.{[], arith, ap, sym}
use Rattle.leaf_counts.proofs.CountLaws.{no_points}
use Rattle.leaf_counts.proofs.NodeLaws.{total-Leaf}
use Rattle.leaf_counts.specs.declared.counts.Counts.{Counts}
use Rattle.leaf_counts.proofs.skeleton.Skeleton.new.Goals as goal

pub invariant_of-result : goal.invariant_of-result
invariant_of-result c = record {
  points = [];
  few = omega arith;
  is = ap (λ (t : Counts). record { cube = c.args.cube; leaf = c.args.leaf; counts = t }) (no_points c.args.leaf c.args.cube);
  total = sym (total-Leaf 0);
}

pub returns : goal.returns
returns c = ap (λ (t : Counts). record { cube = c.args.cube; leaf = c.args.leaf; counts = t }) (no_points c.args.leaf c.args.cube)
