use Rattle.std.proofs.Common.{◌-◌, ◌≡◌, ℕ, ◌≤◌, length}
use Rattle.list_machine.specs.Facts.{IsAt}
use Rattle.list_filers.specs.declared.cursors.Cursor.{Cursor}
use Rattle.list_filers.proofs.cursors.find.Given as goal

-- the cursor of the list stands from low on, and not past high
abbrev pub invariant-loop-low : goal.invariant-loop-low
invariant-loop-low l = (l.high ≤ length l.cursors) × ((i : ℕ) (a : Cursor) → IsAt l.cursors i a → a.list ≡ l.list → (l.low ≤ i) × (i ≤ l.high))

abbrev pub decreases-loop-low : goal.decreases-loop-low
decreases-loop-low l = l.high - l.low
