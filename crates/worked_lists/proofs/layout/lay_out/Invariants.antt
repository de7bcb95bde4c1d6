use Rattle.list_filers.specs.Filers.{shared_name}
use Rattle.chunk_lists.specs.Knives.{lists_of}
use Rattle.worked_lists.proofs.Laying.{IsPartlyLaidOut}
use Rattle.worked_lists.proofs.layout.lay_out.Given as goal

abbrev pub invariant-loop-list : goal.invariant-loop-list
invariant-loop-list l = IsPartlyLaidOut (lists_of l.knife) (shared_name l.shared.value) l.lists l.chunks l.list
