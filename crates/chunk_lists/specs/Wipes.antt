-- A clearing under way.
use Rattle.std.specs.Prelude.{◌≡◌, ℕ, suc, ◌+◌, ◌*◌, ◌-◌, [], length, filter, slice_set}
use Rattle.list_machine.specs.Steps.{with_stage, is_kept}
use Rattle.list_machine.specs.declared.views.Stage.TheVariants.{Cleared}
use Rattle.list_table.specs.Ledgers.{leaf_of, no_notes}
use Rattle.list_table.specs.OwnerMoves.{ledger_with, chunks_in}
use Rattle.list_table.specs.declared.views.Ledger.{Ledger}

-- so many words of the list that is cleared now are cleared
abbrev pub AreWiped : Ledger → ℕ → ℕ → Type 0
AreWiped g l n = (leaf_of g l).stage ≡ Cleared (g.owner.book.cleared - 1) n

-- the ledger once so many are cleared
abbrev pub wiped_to : Ledger → ℕ → ℕ → Ledger
wiped_to g l n = ledger_with g l (with_stage (leaf_of g l) (Cleared (g.owner.book.cleared - 1) n))

-- the ledger once the list is cleared: it has no chunks and no notes, and of its slots and links nothing is known
abbrev pub cleared_ledger : Ledger → ℕ → Ledger
cleared_ledger g l = record {
  owner = record g.owner {
    book = record g.owner.book {
      leaves = slice_set g.owner.book.leaves l (record (leaf_of g l) { claimed = []; owned = []; stage = Cleared g.owner.book.cleared (257 * length (chunks_in (leaf_of g l)) + 1) });
      cleared = suc g.owner.book.cleared;
    };
    facts = filter (is_kept l) g.owner.facts;
  };
  notes = slice_set g.notes l no_notes;
}
