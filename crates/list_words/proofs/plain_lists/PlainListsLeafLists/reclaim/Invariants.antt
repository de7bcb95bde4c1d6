use Rattle.std.proofs.Common.{◌-◌, length}
use Rattle.list_words.proofs.ReclaimLaws.{IsClearingOf}
use Rattle.list_words.proofs.plain_lists.PlainListsLeafLists.reclaim.Given as goal

abbrev pub invariant-loop-self : goal.invariant-loop-self
invariant-loop-self l = IsClearingOf l.initial.self l.self

abbrev pub decreases-loop-self : goal.decreases-loop-self
decreases-loop-self l = length l.self.order - l.self.cleared
