use Rattle.std.proofs.Common.{◌≡◌, ℕ, ◌*◌, All, vec_len}
use Rattle.list_words.specs.Filing.{Filing}
use Rattle.chunk_lists.specs.Knives.{lists_of}
use Rattle.worked_lists.specs.Layouts.{IsLaidOut}
use Rattle.worked_lists.proofs.crowd.hire.Given as goal

abbrev pub invariant-loop-number : goal.invariant-loop-number
invariant-loop-number l =
    ((chunks : ℕ) → IsLaidOut (lists_of l.fn.knife) l.crew.lists chunks 0 0 → IsLaidOut (lists_of l.knife) l.crew.lists chunks (l.number * l.crew.places) l.number)
    × ((lists_of l.knife).name ≡ (lists_of l.fn.knife).name)
    × All (λ (w : Filing). w.name ≡ (lists_of l.fn.knife).name) l.workers.items
    × (vec_len l.workers ≡ l.number)
