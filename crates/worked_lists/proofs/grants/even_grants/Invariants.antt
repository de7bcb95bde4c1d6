use Rattle.std.proofs.Common.{◌≡◌}
use Rattle.worked_lists.specs.Layouts.{even_grants}
use Rattle.worked_lists.proofs.grants.even_grants.Given as goal

abbrev pub invariant-loop-list : goal.invariant-loop-list
invariant-loop-list l = l.grants.items ≡ even_grants l.list l.places
