-- What the owner knows of its lists, and that its notes are borne out by its facts.
use Rattle.std.specs.Prelude.{◌≡◌, ℕ, ◌+◌, ◌*◌, ◌<◌, ◌≤◌, List, [], length, replicate, slice_index_or, Option, Some, None}
use Rattle.list_machine.specs.Facts.{IsAt}
use Rattle.list_machine.specs.Steps.{opening, opening_leaf}
use Rattle.list_machine.specs.declared.views.Fact.{Fact}
use Rattle.list_machine.specs.declared.views.Fact.TheVariants.{Item, Empty}
use Rattle.list_machine.specs.declared.views.Stage.{Stage}
use Rattle.list_machine.specs.declared.views.Stage.TheVariants.{Open, Swept, Cleared}
use Rattle.list_machine.specs.declared.views.Leaf.{Leaf}
use Rattle.list_table.specs.declared.views.Notes.{Notes}
use Rattle.list_table.specs.declared.views.Ledger.{Ledger}

-- the fact is one of these
abbrev pub Knows : List Fact → Fact → Type 0
Knows facts f = (q : ℕ) × IsAt facts q f

-- what is known of a slot in which a mark found this item, or none
abbrev pub shown : ℕ → ℕ → ℕ → Option ℕ → Fact
shown l c k (Some x) = Item l c k x
shown l c k None = Empty l c k

-- an item was placed in each used slot of the owned chain, and is known to stand there
pub record ArePlaced (facts : List Fact) (l : ℕ) (a : Leaf) (placed : List ℕ) : Type 0 where
  pub counted : length placed ≡ a.used
  pub known : (r c k x : ℕ) → IsAt a.owned r c → k < 256 → IsAt placed (256 * r + k) x → Knows facts (Item l c k x)

-- of so many marks the first were made of the claimed slots, and what they found is known
pub record AreMarked (facts : List Fact) (l : ℕ) (a : Leaf) (found marks : ℕ) (marked : List (Option ℕ)) : Type 0 where
  pub some : marks ≤ found → length marked ≡ marks
  pub all : found ≤ marks → length marked ≡ found
  pub known : (r c k : ℕ) (y : Option ℕ) → IsAt a.claimed r c → k < 256 → IsAt marked (256 * r + k) y → Knows facts (shown l c k y)

-- the notes of a list at this stage; of a list whose clearing has begun they say nothing
abbrev pub IsNoted : List Fact → ℕ → Leaf → Notes → Stage → Type 0
IsNoted facts l a t Open = ArePlaced facts l a t.placed × (t.marked ≡ [])
IsNoted facts l a t (Swept p f m) = ArePlaced facts l a t.placed × AreMarked facts l a f m t.marked
IsNoted facts l a t (Cleared p n) = Unit {0}

-- the notes of these lists are borne out by the facts
pub record AreKept (leaves : List Leaf) (notes : List Notes) (facts : List Fact) : Type 0 where
  pub each_list : length notes ≡ length leaves
  pub noted : (l : ℕ) (a : Leaf) (t : Notes) → IsAt leaves l a → IsAt notes l t → IsNoted facts l a t a.stage

-- the notes of the owner are borne out by its facts
abbrev pub IsKept : Ledger → Type 0
IsKept g = AreKept g.owner.book.leaves g.notes g.owner.facts

-- of a list that nothing was done with there is no note
abbrev pub no_notes : Notes
no_notes = record { placed = []; marked = [] }

-- the owner's ledger of so many lists at the start
abbrev pub opening_ledger : ℕ → Ledger
opening_ledger lists = record { owner = opening lists; notes = replicate lists no_notes }

-- what the owner knows of a list; past the lists, that nothing was done with it
abbrev pub leaf_of : Ledger → ℕ → Leaf
leaf_of g l = slice_index_or g.owner.book.leaves l opening_leaf

-- its notes of a list
abbrev pub notes_of : Ledger → ℕ → Notes
notes_of g l = slice_index_or g.notes l no_notes
