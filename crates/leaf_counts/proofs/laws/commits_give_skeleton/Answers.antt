use Rattle.std.proofs.Common.{[]}
use Rattle.leaf_counts.proofs.CommitLaws.{commits_are}
use Rattle.leaf_counts.proofs.laws.commits_give_skeleton.Goals as goal

pub returns : goal.returns
returns c = λ leaf cube commits due. commits_are leaf cube [] commits due
