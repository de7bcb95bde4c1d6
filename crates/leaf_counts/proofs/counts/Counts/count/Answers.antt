use Rattle.std.proofs.Common.{[], inl, inr}
use Rattle.leaf_counts.proofs.WayLaws.{count_here}
use Rattle.leaf_counts.proofs.counts.Counts.count.Goals as goal

pub returns-in-Leaf : goal.returns-in-Leaf
returns-in-Leaf c = count_here _ _ [] (inl c.in-Leaf.is)

pub returns-in-Inner : goal.returns-in-Inner
returns-in-Inner c = count_here _ _ _ (inr c.in-Inner.is)
