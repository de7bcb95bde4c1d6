use Rattle.std.proofs.Common.{◌≡◌, ℕ, ◌+◌, cond, nat_eq}
use Rattle.list_machine.specs.Grants.{granted_in}
use Rattle.list_filers.proofs.tests.file_items.Given as goal

abbrev pub invariant-loop-item : goal.invariant-loop-item
invariant-loop-item g l = (l.filer.filing.name ≡ l.fn.filer.filing.name) × ((h : ℕ) → granted_in h l.filer.filing.left + cond (nat_eq h l.list) l.item 0 ≡ granted_in h l.fn.filer.filing.left)
