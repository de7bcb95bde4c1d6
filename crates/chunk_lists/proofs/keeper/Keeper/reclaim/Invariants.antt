use Rattle.std.proofs.Common.{◌-◌, length}
use Rattle.chunk_lists.proofs.Reclaims.{IsClearingOf}
use Rattle.chunk_lists.proofs.keeper.Keeper.reclaim.Given as goal

abbrev pub invariant-loop-list : goal.invariant-loop-list
invariant-loop-list l = IsClearingOf l.initial.self l.self

abbrev pub decreases-loop-list : goal.decreases-loop-list
decreases-loop-list l = length l.self.book.order - l.self.book.cleared
