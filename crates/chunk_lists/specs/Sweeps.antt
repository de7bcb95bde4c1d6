-- A sweep under way.
use Rattle.std.specs.Prelude.{◌≡◌, ℕ, List, slice_set, Option}
use Rattle.std.specs.List.{filter_map}
use Rattle.list_machine.specs.Steps.{with_stage, book_with}
use Rattle.list_machine.specs.declared.views.Fact.{Fact}
use Rattle.list_machine.specs.declared.views.Stage.TheVariants.{Swept}
use Rattle.list_table.specs.Ledgers.{Knows, leaf_of, notes_of}
use Rattle.list_table.specs.declared.views.Ledger.{Ledger}

-- the items that marks found
abbrev pub items_in : List (Option ℕ) → List ℕ
items_in marked = filter_map (λ x. x) marked

-- in h the list is swept so far: so many marks were made since g, and these are the notes of the claimed slots; nothing is forgotten
pub record AreSwept (g h : Ledger) (l place found marks : ℕ) (marked : List (Option ℕ)) : Type 0 where
  pub book_is : h.owner.book ≡ book_with g.owner.book l (with_stage (leaf_of g l) (Swept place found marks))
  pub out_is : h.owner.out ≡ g.owner.out
  pub notes_is : h.notes ≡ slice_set g.notes l (record { placed = (notes_of g l).placed; marked = marked })
  pub known : (f : Fact) → Knows g.owner.facts f → Knows h.owner.facts f
