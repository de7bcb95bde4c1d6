-- The owner of lists with room for the next filer, as lists show it.
use Rattle.std.specs.Prelude.{ℕ, ◌<◌, List, [], ◌∷◌, slice_index, replicate}
use Rattle.list_machine.specs.declared.views.Fact.TheVariants.{Item}
use Rattle.list_words.specs.Store.{Seat, Store, no_row}
use Rattle.list_table.specs.Ledgers.{Knows}
use Rattle.list_table.specs.Tables.{GuestValue}
use Rattle.chunk_lists.specs.Keepers.{KeeperValue, store_of}

-- the owner, and the room for the next filer: for how many grants and answers
pub record KnifeValue : Type 0 where
  pub keeper : KeeperValue
  pub grants : ℕ
  pub items : ℕ

-- the name that lists, filers and readers share, by that of their table: how many lists and chunks there are stands before it
abbrev pub full_name : List ℕ → List ℕ
full_name name = slice_index name 0 ∷ slice_index name 1 ∷ name

-- a store with its full name and this room
abbrev pub with_room : Store → ℕ → ℕ → Store
with_room s grants items = record s { name = full_name s.name; grants_room = grants; items_room = items }

-- the lists as one store
abbrev pub lists_of : KnifeValue → Store
lists_of k = with_room (store_of k.keeper) k.grants k.items

-- lists of this name that were never opened, and free chunks
abbrev pub fresh_store : List ℕ → ℕ → ℕ → Store
fresh_store name lists chunks = record { name = name; chunks = chunks; rows = replicate lists no_row; free = chunks; order = []; cleared = 0; out = 0 ∷ []; grants_room = 0; items_room = 0; given = 0 }

-- who a reader is
abbrev pub seat_of : GuestValue → Seat
seat_of r = record { name = full_name r.name; birth = r.guest.birth }

-- the reader knows that a slot of the chunk has the item
abbrev pub Sees : GuestValue → ℕ → ℕ → Type 0
Sees r c x = (l k : ℕ) × (k < 256) × Knows r.guest.facts (Item l c k x)
