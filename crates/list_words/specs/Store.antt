-- The lists of leaves as plain data.
use Rattle.std.specs.Prelude.{◌≡◌, ℕ, suc, ◌+◌, ◌-◌, ◌*◌, ◌/◌, ◌%◌, ◌<◌, ◌≤◌, ◌⊎◌, Bool, true, false, if◌then◌else◌, max, List, [], ◌∷◌, ◌++◌, length, take, drop, sum, sum_by, slice_get, slice_set, slice_index, slice_index_or, Option, Some, Contains, AllPairs, ◌≢◌, All}
use Rattle.std.specs.List.{filter_map}
use Rattle.list_machine.specs.declared.views.Grant.{Grant}
use Rattle.list_machine.specs.Grants.{granted_in_all}
use Rattle.list_words.specs.declared.leaf_lists.Phase.{Phase}
use Rattle.list_words.specs.declared.leaf_lists.Phase.TheVariants.{Fresh, Open, Shut}

-- One list: its phase, the chunks of its two chains, how many claimed slots were granted, the items placed in
-- the owned chain in order, what the sweep found in each claimed slot in order, and for how many more chunks
-- of each chain there is room. The sweep's list is empty before it; a cleared list has no chunks, no items and no room.
pub record Row : Type 0 where
  pub phase : Phase
  pub claimed : List ℕ
  pub owned : List ℕ
  pub granted : ℕ
  pub placed : List ℕ
  pub marked : List (Option ℕ)
  pub claimed_room : ℕ
  pub owned_room : ℕ

-- All lists: their name, how many chunks there are and how many of them are free, the shut lists in the order
-- in which they were shut, how many of them are cleared, for each birth how many readers and filers are out,
-- for how many grants and answers of the next filer there is room, and how many slots were ever granted.
pub record Store : Type 0 where
  pub name : List ℕ
  pub chunks : ℕ
  pub rows : List Row
  pub free : ℕ
  pub order : List ℕ
  pub cleared : ℕ
  pub out : List ℕ
  pub grants_room : ℕ
  pub items_room : ℕ
  pub given : ℕ

-- the row of a list that was never opened
abbrev pub no_row : Row
no_row = record { phase = Fresh; claimed = []; owned = []; granted = 0; placed = []; marked = []; claimed_room = 0; owned_room = 0 }

-- the row of a list, which for a number past the lists was never opened
abbrev pub row_in : List Row → ℕ → Row
row_in rows l = slice_index_or rows l no_row

-- the row of a list of the store
abbrev pub row : Store → ℕ → Row
row s l = row_in s.rows l

-- the list takes items
abbrev pub IsOpen : Store → ℕ → Type 0
IsOpen s l = (row s l).phase ≡ Open

-- the list was shut
abbrev pub IsShut : Store → ℕ → Type 0
IsShut s l = (row s l).phase ≡ Shut

-- the chunks of both chains
abbrev pub chunks_of : Row → List ℕ
chunks_of r = r.claimed ++ r.owned

-- a chunk stands in the chains of no list
abbrev pub IsInNoChain : Store → ℕ → Type 0
IsInNoChain s c = (l : ℕ) → Contains (chunks_of (row s l)) c → ⊥

-- the chunk that a chain gets next: the least of those that stand in no chain
pub record IsNextChunk (s : Store) (c : ℕ) : Type 0 where
  pub below : c < s.chunks
  pub unused : IsInNoChain s c
  pub least : (d : ℕ) → IsInNoChain s d → c ≤ d

-- the items that the sweep of a shut list appended: those of the claimed slots, and then those of the owned ones
abbrev pub found_in : Row → List ℕ
found_in r = filter_map (λ x. x) r.marked ++ r.placed

-- ---- one list changes

-- the lists with this row for the list l
abbrev pub with_row : Store → ℕ → Row → Store
with_row s l r = record s { rows = slice_set s.rows l r }

-- there is room for at least so many more chunks in each chain
abbrev pub roomier : Row → ℕ → ℕ → Row
roomier r claimed owned = record r { claimed_room = max r.claimed_room claimed; owned_room = max r.owned_room owned }

-- the list takes items, and has two empty chains
abbrev pub opened : Row → Row
opened r = record r { phase = Open; claimed = []; owned = []; granted = 0; placed = []; marked = [] }

-- a chunk stands at the end of the claimed chain
abbrev pub linked : Row → ℕ → Row
linked r c = record r { claimed = r.claimed ++ c ∷ []; claimed_room = r.claimed_room - 1 }

-- a chunk stands at the end of the owned chain
abbrev pub lengthened : Row → ℕ → Row
lengthened r c = record r { owned = r.owned ++ c ∷ []; owned_room = r.owned_room - 1 }

-- an item stands in the next owned slot
abbrev pub placed_in : Row → ℕ → Row
placed_in r item = record r { placed = r.placed ++ item ∷ [] }

-- so many more claimed slots were granted
abbrev pub more_granted : Row → ℕ → Row
more_granted r n = record r { granted = r.granted + n }

-- the list was shut, and this is what its marks found in the claimed slots
abbrev pub shut_with : Row → List (Option ℕ) → Row
shut_with r marked = record r { phase = Shut; marked = marked }

-- the list was cleared
abbrev pub emptied : Row → Row
emptied r = record r { claimed = []; owned = []; placed = []; marked = []; claimed_room = 0; owned_room = 0 }

-- a chunk was taken for a chain
abbrev pub with_chunk : Store → ℕ → Row → Store
with_chunk s l r = record s { rows = slice_set s.rows l r; free = s.free - 1 }

-- a list was shut, and is the last in the order of shuts
abbrev pub shut_now : Store → ℕ → List (Option ℕ) → Store
shut_now s l marked = record s { rows = slice_set s.rows l (shut_with (row s l) marked); order = s.order ++ l ∷ []; out = s.out ++ 0 ∷ [] }

-- ---- readers and filers

-- the birth of what is made now: how many lists are shut
abbrev pub birth_now : Store → ℕ
birth_now s = length s.order

-- how many readers and filers are out
abbrev pub seats_out : Store → ℕ
seats_out s = sum s.out

-- the counts with one more of a birth
abbrev pub counted : List ℕ → ℕ → List ℕ
counted out birth = slice_set out birth (slice_index out birth + 1)

-- the counts with one less of a birth, or as they are where nobody of that birth is out
abbrev pub counted_off : List ℕ → ℕ → List ℕ
counted_off out birth = slice_set out birth (slice_index out birth - 1)

-- one more is out, who was born now
abbrev pub one_more : Store → Store
one_more s = record s { out = counted s.out (birth_now s) }

-- one less of a birth is out
abbrev pub one_less : Store → ℕ → Store
one_less s birth = record s { out = counted_off s.out birth }

-- there is room for a filer with at least so many grants and answers
abbrev pub with_filer_room : Store → ℕ → ℕ → Store
with_filer_room s grants items = record s { grants_room = max s.grants_room grants; items_room = max s.items_room items }

-- the rows after grants
abbrev pub grant_rows : List Grant → List Row → List Row
grant_rows [] rows = rows
grant_rows (g ∷ gs) rows = grant_rows gs (slice_set rows g.list (more_granted (row_in rows g.list) g.n))

-- a filer with these grants was made
abbrev pub admitted : Store → List Grant → Store
admitted s gs = record s { rows = grant_rows gs s.rows; out = counted s.out (birth_now s); grants_room = 0; items_room = 0; given = s.given + granted_in_all gs }

-- a filer with these grants may be made
pub record MayAdmit (s : Store) (gs : List Grant) : Type 0 where
  pub grants_room : length gs ≤ s.grants_room
  pub items_room : granted_in_all gs ≤ s.items_room
  pub apart : AllPairs (λ (a b : Grant). a.list ≢ b.list) gs
  pub takes : All (λ (g : Grant). IsOpen s g.list × ((row s g.list).granted + g.n ≤ 256 * length (row s g.list).claimed)) gs
  pub few : s.given + granted_in_all gs < 2147483648
  pub seats : seats_out s < 18446744073709551615

-- all of a row but what was granted
pub record SameBesidesGranted (a b : Row) : Type 0 where
  pub phase : a.phase ≡ b.phase
  pub claimed : a.claimed ≡ b.claimed
  pub owned : a.owned ≡ b.owned
  pub placed : a.placed ≡ b.placed
  pub marked : a.marked ≡ b.marked
  pub claimed_room : a.claimed_room ≡ b.claimed_room
  pub owned_room : a.owned_room ≡ b.owned_room

-- ---- clearing

-- whether a list at this phase was shut
abbrev pub is_shut : Phase → Bool
is_shut Fresh = false
is_shut Open = false
is_shut Shut = true

-- how many chunks of a list are held: those of a shut list that is not cleared, since a cleared one has none
abbrev pub held_in : Row → ℕ
held_in r = if is_shut r.phase then length (chunks_of r) else 0

-- how many chunks of all lists are held
abbrev pub held_of : Store → ℕ
held_of s = sum_by held_in s.rows

-- nobody is out who was born before the list at a place of the order was shut
abbrev pub Unreached : List ℕ → ℕ → Type 0
Unreached out p = (b : ℕ) → b ≤ p → slice_index out b ≡ 0

-- the shut lists at the places from s.cleared to n are those that may be cleared
pub record ClearsTo (s : Store) (n : ℕ) : Type 0 where
  pub rises : s.cleared ≤ n
  pub within : n ≤ length s.order
  pub nobody : (p : ℕ) → s.cleared ≤ p → p < n → Unreached s.out p
  pub stops : n < length s.order → Unreached s.out n → ⊥

-- lists are cleared
abbrev pub clear_rows : List ℕ → List Row → List Row
clear_rows [] rows = rows
clear_rows (l ∷ ls) rows = clear_rows ls (slice_set rows l (emptied (row_in rows l)))

-- the store once a shut list is cleared, the next in the order
abbrev pub cleared_store : Store → ℕ → Store
cleared_store s l = record s { rows = slice_set s.rows l (emptied (row_in s.rows l)); free = s.free + length (chunks_of (row_in s.rows l)); cleared = suc s.cleared }

-- exactly the lists that may be cleared are cleared, and their chunks are free
pub record IsReclaimed (old new : Store) : Type 0 where
  pub to : ClearsTo old new.cleared
  pub free : new.free + held_of new ≡ old.free + held_of old
  pub rest : new ≡ record old { rows = clear_rows (drop old.cleared (take new.cleared old.order)) old.rows; free = new.free; cleared = new.cleared }

-- a row is as it was, or that of the list once it is cleared
abbrev pub IsKeptOrCleared : Row → Row → Type 0
IsKeptOrCleared a b = (b ≡ a) ⊎ (b ≡ emptied a)

-- a list whose clearing is done
abbrev pub IsCleared : Store → ℕ → Type 0
IsCleared s l = Contains (take s.cleared s.order) l

-- ---- what is known of items

-- who a reader is: the name of its lists, and how many lists were shut when it was made
pub record Seat : Type 0 where
  pub name : List ℕ
  pub birth : ℕ

-- of no item is it forgotten in which chunk of its list it stands
abbrev pub Keeps : (ℕ → ℕ → ℕ → Type 0) → (ℕ → ℕ → ℕ → Type 0) → Type 0
Keeps before after = (l c x : ℕ) → before l c x → after l c x

-- of no slot is it forgotten what it has
abbrev pub KeepsSlots : (ℕ → ℕ → ℕ → Option ℕ → Type 0) → (ℕ → ℕ → ℕ → Option ℕ → Type 0) → Type 0
KeepsSlots before after = (l c k : ℕ) (y : Option ℕ) → before l c k y → after l c k y

-- a chunk has one place in the chains of all lists
abbrev pub StandOnce : Store → Type 0
StandOnce s = (l m i j c : ℕ) → slice_get (chunks_of (row s l)) i ≡ Some c → slice_get (chunks_of (row s m)) j ≡ Some c → (l ≡ m) × (i ≡ j)

-- What a sweep showed of the slots of its list, where `shows c k y` says what is known of the slot k of the chunk c: this
-- item, or that it was marked while it was empty. There is one mark for each claim that the shut found, each of the claimed
-- slot at its place, and each placed item is known in the owned slot at its place.
pub record AreMarks (shows : ℕ → ℕ → Option ℕ → Type 0) (claims : ℕ) (r : Row) : Type 0 where
  pub counted : length r.marked ≡ claims
  pub claimed : (i : ℕ) (y : Option ℕ) → slice_get r.marked i ≡ Some y → (c : ℕ) × (slice_get r.claimed (i / 256) ≡ Some c) × shows c (i % 256) y
  pub owned : (i x : ℕ) → slice_get r.placed i ≡ Some x → (c : ℕ) × (slice_get r.owned (i / 256) ≡ Some c) × shows c (i % 256) (Some x)

-- the item that was filed is known to stand in the chunk, which has its place in the claimed chain, and if the list is shut, its sweep appended it
pub record IsStanding (known : ℕ → ℕ → Type 0) (r : Row) (c x : ℕ) : Type 0 where
  pub known_there : known c x
  pub rank : ℕ
  pub chunk : slice_get r.claimed rank ≡ Some c
  pub found : r.phase ≡ Shut → Contains (found_in r) x

-- no two slots have this item
abbrev pub IsInOneSlot : (ℕ → ℕ → Option ℕ → Type 0) → ℕ → Type 0
IsInOneSlot shows x = (c k d m : ℕ) → shows c k (Some x) → shows d m (Some x) → (c ≡ d) × (k ≡ m)

-- the item that was filed is known to stand in the slot k of the chunk c, which has its place in the claimed chain; and if the
-- list is shut, this place is one of those that its shut found claimed, and the mark there found the item
pub record IsFiledAt (shows : ℕ → ℕ → Option ℕ → Type 0) (claims : ℕ) (r : Row) (c k x : ℕ) : Type 0 where
  pub shown_there : shows c k (Some x)
  pub within : k < 256
  pub rank : ℕ
  pub chunk : slice_get r.claimed rank ≡ Some c
  pub marked : r.phase ≡ Shut → (256 * rank + k < claims) × (slice_get r.marked (256 * rank + k) ≡ Some (Some x))

-- the sweep of a shut list found the item in the slot k of the chunk c: by the mark of that place, or as the item placed there
pub data IsFoundAt (r : Row) (c k x : ℕ) : Type 0 where
  by_mark : (rank : ℕ) → slice_get r.claimed rank ≡ Some c → slice_get r.marked (256 * rank + k) ≡ Some (Some x) → IsFoundAt r c k x
  as_placed : (rank : ℕ) → slice_get r.owned rank ≡ Some c → slice_get r.placed (256 * rank + k) ≡ Some x → IsFoundAt r c k x

-- the item that a slot of the chunk showed, if any, is known to stand in the chunk
abbrev pub Stood : (ℕ → ℕ → Type 0) → ℕ → ℕ → Option ℕ → Type 0
Stood known c k y = (x : ℕ) → y ≡ Some x → known c x
