-- A worker, who files in lists where it has leave.
use Rattle.std.specs.Prelude.{ℕ, ◌≤◌, List}
use Rattle.list_machine.specs.Facts.{IsAt}
use Rattle.list_machine.specs.declared.views.Grant.{Grant}
use Rattle.list_machine.specs.Grants.{granted_in}

-- of each list so many places are left at least
abbrev pub AreLeft : List ℕ → List Grant → Type 0
AreLeft left grants = (l n : ℕ) → IsAt left l n → n ≤ granted_in l grants
