use Rattle.std.proofs.Common.{◌≡◌, length}
use Rattle.chunk_lists.specs.Knives.{lists_of}
use Rattle.worked_lists.specs.Layouts.{ArePlots, AreSwept}
use Rattle.worked_lists.proofs.owner.sweep_each.Given as goal

abbrev pub invariant-loop-list : goal.invariant-loop-list
invariant-loop-list g l = AreSwept (lists_of l.fn.owner.knife) (lists_of l.owner.knife) l.from l.list × ArePlots (lists_of l.owner.knife) l.list l.chunks × (length (lists_of l.owner.knife).rows ≡ length (lists_of l.fn.owner.knife).rows) × ((lists_of l.owner.knife).name ≡ (lists_of l.fn.owner.knife).name) × (l.owner.reader ≡ l.fn.owner.reader)
