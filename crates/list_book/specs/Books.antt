-- The book of the lists of leaves, as plain data: what is kept of each list beside its words.
use Rattle.std.specs.Prelude.{◌≡◌, ◌≢◌, ℕ, suc, ◌+◌, ◌-◌, ◌*◌, ◌<◌, ◌≤◌, Bool, if◌then◌else◌, max, List, [], ◌∷◌, ◌++◌, length, slice_get, slice_set, slice_index, slice_index_or, sum, sum_by, replicate, Option, Some, Contains, All, AllPairs}
use Rattle.list_machine.specs.declared.views.Grant.{Grant}
use Rattle.list_machine.specs.Grants.{granted_in_all}
use Rattle.list_words.specs.Store.{Unreached, counted, counted_off, is_shut}
use Rattle.list_words.specs.declared.leaf_lists.Phase.{Phase}
use Rattle.list_words.specs.declared.leaf_lists.Phase.TheVariants.{Fresh, Open, Shut}

-- One list: its phase, the chunks of its two chains, how many claimed slots were granted, how many owned slots
-- are used, and for how many more chunks of each chain there is room. A list that was just cleared has no
-- chunks, no used slots and no room.
pub record BookRow : Type 0 where
  pub phase : Phase
  pub claimed : List ℕ
  pub owned : List ℕ
  pub granted : ℕ
  pub used : ℕ
  pub claimed_room : ℕ
  pub owned_room : ℕ

-- All lists: how many chunks there are and how many of them are free, the shut lists in the order in which they
-- were shut, how many of them are cleared, for each birth how many seats are out, and how many slots were ever
-- granted.
pub record BookValue : Type 0 where
  pub chunks : ℕ
  pub rows : List BookRow
  pub free : ℕ
  pub order : List ℕ
  pub cleared : ℕ
  pub out : List ℕ
  pub given : ℕ

-- the row of a list that was never opened
abbrev pub fresh_row : BookRow
fresh_row = record { phase = Fresh; claimed = []; owned = []; granted = 0; used = 0; claimed_room = 0; owned_room = 0 }

-- the row of a list, which for a number past the lists was never opened
abbrev pub row_at : List BookRow → ℕ → BookRow
row_at rows l = slice_index_or rows l fresh_row

-- the row of a list of the book
abbrev pub book_row : BookValue → ℕ → BookRow
book_row b l = row_at b.rows l

-- the book of lists that were never opened, and of free chunks
abbrev pub fresh_book : ℕ → ℕ → BookValue
fresh_book lists chunks = record { chunks = chunks; rows = replicate lists fresh_row; free = chunks; order = []; cleared = 0; out = 0 ∷ []; given = 0 }

-- the list takes items
abbrev pub TakesItems : BookValue → ℕ → Type 0
TakesItems b l = (book_row b l).phase ≡ Open

-- ---- chunks

-- one of the two chains of a list
abbrev pub row_chain : Bool → BookRow → List ℕ
row_chain owned r = if owned then r.owned else r.claimed

-- the chunk at a place in that chain of the list l
abbrev pub chunk_in : List BookRow → Bool → ℕ → ℕ → Option ℕ
chunk_in rows owned l place = slice_get (row_chain owned (row_at rows l)) place

-- the chunks of both chains
abbrev pub row_chunks : BookRow → List ℕ
row_chunks r = r.claimed ++ r.owned

-- a chunk stands in the chains of no row
abbrev pub IsNowhere : List BookRow → ℕ → Type 0
IsNowhere rows c = (l : ℕ) → Contains (row_chunks (row_at rows l)) c → ⊥

-- a chunk stands in the chains of no list
abbrev pub IsInNoRow : BookValue → ℕ → Type 0
IsInNoRow b c = IsNowhere b.rows c

-- how many chunks a list has in both chains
abbrev pub row_count : BookRow → ℕ
row_count r = length r.claimed + length r.owned

-- how many of them are held, since the list is shut; a cleared list has none
abbrev pub row_held : BookRow → ℕ
row_held r = if is_shut r.phase then row_count r else 0

-- how many chunks the lists have that are shut and not cleared
abbrev pub book_held : BookValue → ℕ
book_held b = sum_by row_held b.rows

-- ---- one list changes

-- the book with this row for the list l
abbrev pub with_book_row : BookValue → ℕ → BookRow → BookValue
with_book_row b l r = record b { rows = slice_set b.rows l r }

-- there is room for at least so many more chunks in each chain
abbrev pub roomier_row : BookRow → ℕ → ℕ → BookRow
roomier_row r claimed owned = record r { claimed_room = max r.claimed_room claimed; owned_room = max r.owned_room owned }

-- the list takes items, and has two empty chains
abbrev pub opened_row : BookRow → BookRow
opened_row r = record r { phase = Open; claimed = []; owned = []; granted = 0; used = 0 }

-- a chunk stands at the end of the claimed chain
abbrev pub linked_row : BookRow → ℕ → BookRow
linked_row r c = record r { claimed = r.claimed ++ c ∷ []; claimed_room = r.claimed_room - 1 }

-- a chunk stands at the end of the owned chain
abbrev pub lengthened_row : BookRow → ℕ → BookRow
lengthened_row r c = record r { owned = r.owned ++ c ∷ []; owned_room = r.owned_room - 1 }

-- the next owned slot is used
abbrev pub used_row : BookRow → BookRow
used_row r = record r { used = suc r.used }

-- so many more claimed slots were granted
abbrev pub granted_row : BookRow → ℕ → BookRow
granted_row r n = record r { granted = r.granted + n }

-- the list was shut
abbrev pub shut_row : BookRow → BookRow
shut_row r = record r { phase = Shut }

-- the list was cleared
abbrev pub emptied_row : BookRow → BookRow
emptied_row r = record r { claimed = []; owned = []; used = 0; claimed_room = 0; owned_room = 0 }

-- a chunk was taken for a chain, which makes this row of the list l
abbrev pub with_taken_chunk : BookValue → ℕ → BookRow → BookValue
with_taken_chunk b l r = record b { rows = slice_set b.rows l r; free = b.free - 1 }

-- a list was shut, and is the last in the order of shuts
abbrev pub with_shut_list : BookValue → ℕ → BookValue
with_shut_list b l = record b { rows = slice_set b.rows l (shut_row (book_row b l)); order = b.order ++ l ∷ []; out = b.out ++ 0 ∷ [] }

-- ---- seats and grants

-- one more seat of the present birth is out
abbrev pub with_seat : BookValue → BookValue
with_seat b = record b { out = counted b.out (length b.order) }

-- one seat less of a birth is out, or as before where none of that birth is
abbrev pub without_seat : BookValue → ℕ → BookValue
without_seat b birth = record b { out = counted_off b.out birth }

-- the rows after grants
abbrev pub granted_rows : List Grant → List BookRow → List BookRow
granted_rows [] rows = rows
granted_rows (g ∷ gs) rows = granted_rows gs (slice_set rows g.list (granted_row (row_at rows g.list) g.n))

-- the grants were made, to a seat of the present birth
abbrev pub with_grants : BookValue → List Grant → BookValue
with_grants b gs = record b { rows = granted_rows gs b.rows; out = counted b.out (length b.order); given = b.given + granted_in_all gs }

-- the list of a grant takes items, and has slots for it
pub record HasSlots (b : BookValue) (g : Grant) : Type 0 where
  pub takes : TakesItems b g.list
  pub slots : (book_row b g.list).granted + g.n ≤ 256 * length (book_row b g.list).claimed

-- these grants may be made to one more seat
pub record MayGrantAll (b : BookValue) (gs : List Grant) : Type 0 where
  pub apart : AllPairs (λ (g h : Grant). g.list ≢ h.list) gs
  pub takes : All (HasSlots b) gs
  pub few : b.given + granted_in_all gs < 2147483648
  pub seats : sum b.out < 18446744073709551615

-- ---- clearing

-- the first shut list that is not cleared
abbrev pub next_in_order : BookValue → ℕ
next_in_order b = slice_index b.order b.cleared

-- there is such a list, and nobody is out who was born before it was shut
pub record MayClearNext (b : BookValue) : Type 0 where
  pub some : b.cleared < length b.order
  pub nobody : Unreached b.out b.cleared

-- that list is cleared, and its chunks are free
abbrev pub with_next_cleared : BookValue → BookValue
with_next_cleared b = record b { rows = slice_set b.rows (next_in_order b) (emptied_row (book_row b (next_in_order b))); free = b.free + row_count (book_row b (next_in_order b)); cleared = suc b.cleared }

-- ---- what every book keeps

-- a list without chunks
abbrev pub HasNoChunks : BookRow → Type 0
HasNoChunks r = (r.claimed ≡ []) × (r.owned ≡ [])

-- each used slot has its chunk, so has each granted one while the list is not shut, and a list that was never
-- opened has no chunks
pub record IsSized (r : BookRow) : Type 0 where
  pub used : r.used ≤ 256 * length r.owned
  pub granted : (r.phase ≡ Shut → ⊥) → r.granted ≤ 256 * length r.claimed
  pub fresh : r.phase ≡ Fresh → HasNoChunks r

-- the lists of the order are the shut ones, each once, and the first of them, which are cleared, have no chunks
pub record IsOrderOfShut (rows : List BookRow) (order : List ℕ) (cleared : ℕ) : Type 0 where
  pub shut : (p l : ℕ) → slice_get order p ≡ Some l → (row_at rows l).phase ≡ Shut
  pub every : (l : ℕ) → (row_at rows l).phase ≡ Shut → (p : ℕ) × (slice_get order p ≡ Some l)
  pub once : (p q l : ℕ) → slice_get order p ≡ Some l → slice_get order q ≡ Some l → p ≡ q
  pub empty : (p l : ℕ) → p < cleared → slice_get order p ≡ Some l → HasNoChunks (row_at rows l)
