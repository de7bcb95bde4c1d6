-- The owner of lists, whose book and whose ledger tell the same of each list.
use Rattle.std.specs.Prelude.{◌≡◌, ℕ, ◌+◌, ◌<◌, ◌⊎◌, List, [], ◌∷◌, length, Option}
use Rattle.list_machine.specs.Facts.{total}
use Rattle.list_machine.specs.Steps.{opening_leaf}
use Rattle.list_machine.specs.declared.views.Fact.{Fact}
use Rattle.list_machine.specs.declared.views.Fact.TheVariants.{Item}
use Rattle.list_machine.specs.declared.views.Stage.TheVariants.{Open as Unshut, Swept, Cleared}
use Rattle.list_machine.specs.declared.views.Stage.{Stage}
use Rattle.list_machine.specs.declared.views.Leaf.{Leaf}
use Rattle.list_words.specs.Store.{Row, Store}
use Rattle.list_words.specs.declared.leaf_lists.Phase.{Phase}
use Rattle.list_words.specs.declared.leaf_lists.Phase.TheVariants.{Fresh, Open, Shut}
use Rattle.list_book.specs.Books.{BookRow, BookValue, book_row}
use Rattle.list_table.specs.Ledgers.{Knows, no_notes, leaf_of, notes_of, shown}
use Rattle.list_table.specs.Tables.{ListsValue, OwnerValue}
use Rattle.list_table.specs.declared.views.Notes.{Notes}
use Rattle.list_table.specs.declared.views.Ledger.{Ledger}

-- what an owner has: the name of its lists, what it knows of their words, and its book
pub record KeeperValue : Type 0 where
  pub name : List ℕ
  pub ledger : Ledger
  pub book : BookValue

-- a list, by its row in the book and its notes
abbrev pub row_of : BookRow → Notes → Row
row_of r t = record { phase = r.phase; claimed = r.claimed; owned = r.owned; granted = r.granted; placed = t.placed; marked = t.marked; claimed_room = r.claimed_room; owned_room = r.owned_room }

-- all lists
abbrev pub rows_of : List BookRow → List Notes → List Row
rows_of [] ts = []
rows_of (r ∷ rs) [] = []
rows_of (r ∷ rs) (t ∷ ts) = row_of r t ∷ rows_of rs ts

-- the lists as one store, with so much room for the next filer
abbrev pub store_with : KeeperValue → ℕ → ℕ → Store
store_with k grants items = record { name = k.name; chunks = k.book.chunks; rows = rows_of k.book.rows k.ledger.notes; free = k.book.free; order = k.book.order; cleared = k.book.cleared; out = k.book.out; grants_room = grants; items_room = items; given = k.book.given }

-- the lists as one store
abbrev pub store_of : KeeperValue → Store
store_of k = store_with k 0 0

-- the owner knows that the item stands in a slot of the chunk, which is one of the list's
abbrev pub KnownIn : KeeperValue → ℕ → ℕ → ℕ → Type 0
KnownIn k l c x = (k' : ℕ) × Knows k.ledger.owner.facts (Item l c k' x)

-- the owner knows of the slot of the chunk that it has this item, or that it was marked while it was empty
abbrev pub ShownIn : KeeperValue → ℕ → ℕ → ℕ → Option ℕ → Type 0
ShownIn k l c k' y = Knows k.ledger.owner.facts (shown l c k' y)

-- of what the owner knew nothing is forgotten
abbrev pub KeepsFacts : KeeperValue → KeeperValue → Type 0
KeepsFacts before after = (f : Fact) → Knows before.ledger.owner.facts f → Knows after.ledger.owner.facts f

-- how many places were claimed, as the shut of a list at this stage found
abbrev pub claims_at : Stage → ℕ
claims_at Unshut = 0
claims_at (Swept p f m) = f
claims_at (Cleared p n) = 0

-- and of each list
abbrev pub claims_of : KeeperValue → ℕ → ℕ
claims_of k l = claims_at (leaf_of k.ledger l).stage

-- a shut list was swept to its end, or cleared, and then it has no chunks and no notes
abbrev pub IsDone : BookRow → Leaf → Notes → Type 0
IsDone r a t = ((p f : ℕ) × (a.stage ≡ Swept p f (f + a.used)) × (a.used ≡ r.used)) ⊎ ((p n : ℕ) × (a.stage ≡ Cleared p n) × (r.claimed ≡ []) × (r.owned ≡ []) × (t ≡ no_notes))

-- what the owner knows of a list in this phase
abbrev pub IsInPhase : Phase → BookRow → Leaf → Notes → Type 0
IsInPhase Fresh r a t = (a ≡ opening_leaf) × (t ≡ no_notes)
IsInPhase Open r a t = (a.stage ≡ Unshut) × (a.used ≡ r.used)
IsInPhase Shut r a t = IsDone r a t

-- the book's row of a list and what the owner knows of it
pub record IsTiedRow (r : BookRow) (a : Leaf) (t : Notes) : Type 0 where
  pub claimed : a.claimed ≡ r.claimed
  pub owned : a.owned ≡ r.owned
  pub granted : a.granted ≡ r.granted
  pub phase : IsInPhase r.phase r a t

-- the book and the ledger tell the same
pub record AreTied (lists chunks : ℕ) (g : Ledger) (b : BookValue) : Type 0 where
  pub rows : length b.rows ≡ lists
  pub leaves : length g.owner.book.leaves ≡ lists
  pub notes : length g.notes ≡ lists
  pub chunks_is : b.chunks ≡ chunks
  pub order : g.owner.book.order ≡ b.order
  pub cleared : g.owner.book.cleared ≡ b.cleared
  pub out : g.owner.out ≡ b.out
  pub given : total (λ (a : Leaf). a.granted) g.owner.book.leaves ≡ b.given
  pub each : (l : ℕ) → l < lists → IsTiedRow (book_row b l) (leaf_of g l) (notes_of g l)

-- the owner's seat is one of these lists, and its book is tied to what it knows
pub record IsKeeper (lists : ListsValue) (seat : OwnerValue) (book : BookValue) : Type 0 where
  pub name : seat.name ≡ lists.name
  pub tied : AreTied lists.lists lists.chunks seat.ledger book
