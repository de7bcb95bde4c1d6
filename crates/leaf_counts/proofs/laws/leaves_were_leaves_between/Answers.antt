use Rattle.std.proofs.Common.{◌++◌, ◌∙◌, ap}
use Rattle.leaf_counts.specs.declared.counts.Counts.{Counts}
use Rattle.leaf_counts.specs.Nodes.{is_leaf_at}
use Rattle.leaf_counts.proofs.CountLaws.{counted_is}
use Rattle.leaf_counts.proofs.LeafLaws.{leaf_between, leaf_by_counts}
use Rattle.leaf_counts.proofs.laws.leaves_were_leaves_between.Goals as goal

pub returns : goal.returns
returns c = λ leaf cube before next last path was is.
    ap (λ (t : Counts). is_leaf_at t path) (counted_is leaf cube (before ++ next))
    ∙ leaf_between path leaf cube before next last (leaf_by_counts leaf cube before path was)
    (leaf_by_counts leaf cube ((before ++ next) ++ last) path is)
