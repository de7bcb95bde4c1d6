-- What bears out that a filing came late.
use Rattle.std.proofs.Common.{ℕ, ◌⊎◌, inl, inr}
use Rattle.list_machine.specs.declared.views.Fact.TheVariants.{Closed, Empty}
use Rattle.list_machine.specs.declared.views.Guest.{Guest}
use Rattle.list_words.specs.declared.leaf_lists.Filed.TheVariants.{Late}
use Rattle.list_words.specs.declared.leaf_lists.Seen.{Seen}
use Rattle.list_words.specs.declared.leaf_lists.Seen.TheVariants.{Shut, Moved}
use Rattle.list_table.specs.Ledgers.{Knows}
use Rattle.list_filers.specs.Ways.{IsShown}

-- the list is known to be shut, or a slot of it to have been marked while it was empty
pub late_shown : (v : Guest) (l x : ℕ) (s : Seen) → IsShown v l x (Late s) → Knows v.facts (Closed l) ⊎ ((c : ℕ) × (k : ℕ) × Knows v.facts (Empty l c k))
late_shown v l x Shut q = inl q
late_shown v l x (Moved c k) q = inr (c, k, q.0)
