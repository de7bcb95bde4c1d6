use Rattle.std.proofs.Common.{◌≡◌, All}
use Rattle.list_words.specs.Filing.{Filing}
use Rattle.chunk_lists.specs.Knives.{lists_of}
use Rattle.worked_lists.proofs.tests.crowded.dismiss.Given as goal

abbrev pub invariant-loop-worker : goal.invariant-loop-worker
invariant-loop-worker l = All (λ (w : Filing). w.name ≡ (lists_of l.fn.knife).name) l.workers.items × ((lists_of l.knife).name ≡ (lists_of l.fn.knife).name)
