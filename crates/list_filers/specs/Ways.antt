-- A filer on its ways: its seat, its cursors, and how many links it has walked.
use Rattle.std.specs.Prelude.{◌≡◌, ℕ, ◌+◌, ◌*◌, ◌<◌, ◌≤◌, Bool, true, if◌then◌else◌, List, slice_set, length, Option, None, Some}
use Rattle.list_machine.specs.Grants.{granted_in, use_grant}
use Rattle.list_machine.specs.Facts.{IsAt}
use Rattle.list_machine.specs.Steps.{KnowsChunk}
use Rattle.list_machine.specs.Walks.{IsWalk, WalkedLink}
use Rattle.list_machine.specs.declared.views.Fact.{Fact}
use Rattle.list_machine.specs.declared.views.Fact.TheVariants.{Item, Closed, Empty}
use Rattle.list_machine.specs.declared.views.Unfiled.TheVariants.{Nothing, Place}
use Rattle.list_machine.specs.declared.views.Guest.{Guest}
use Rattle.list_table.specs.GuestMoves.{after_read}
use Rattle.list_table.specs.Ledgers.{Knows}
use Rattle.list_table.specs.OwnerMoves.{last_link}
use Rattle.list_table.specs.Tables.{ListsValue}
use Rattle.list_words.specs.declared.leaf_lists.Filed.{Filed}
use Rattle.list_words.specs.declared.leaf_lists.Filed.TheVariants.{At, Late}
use Rattle.list_words.specs.declared.leaf_lists.Seen.TheVariants.{Shut, Moved}
use Rattle.list_filers.specs.Cursors.{AreSorted, HasCursor, cursor_at, next_rank, chunk_of}
use Rattle.list_filers.specs.declared.cursors.Cursor.{Cursor}
use Rattle.list_filers.specs.declared.cursors.Reached.{Reached}

-- the lists, what the filer's guest knows of them, its cursors, and how many links it has walked
pub record WaysValue : Type 0 where
  pub lists : ListsValue
  pub guest : Guest
  pub cursors : List Cursor
  pub walked : ℕ

-- a cursor of the list, which has reached a chunk that the guest knows, or none yet
abbrev pub Stands : ℕ → Guest → ℕ → ℕ → Option Reached → Type 0
Stands chunks v walked l None = Unit {0}
Stands chunks v walked l (Some p) = KnowsChunk v l p.rank p.chunk × (p.chunk < chunks) × (p.rank < walked)

-- Where the cursors stand. No link was walked twice: the rank of each that was walked in a list is not past the cursor's.
pub record AreWalked (lists chunks : ℕ) (v : Guest) (cursors : List Cursor) (walked : ℕ) : Type 0 where
  pub sorted : AreSorted cursors
  pub lists_are : (i : ℕ) (a : Cursor) → IsAt cursors i a → a.list < lists
  pub stand : (i : ℕ) (a : Cursor) → IsAt cursors i a → Stands chunks v walked a.list a.reached
  pub few : walked ≤ chunks
  pub links : List WalkedLink
  pub walk : IsWalk v chunks links
  pub counted : length links ≡ walked
  pub passed : (k i : ℕ) (x : WalkedLink) (a : Cursor) → IsAt links k x → IsAt cursors i a → a.list ≡ x.list → x.rank < next_rank a.reached

-- the filer at its start
abbrev pub at_start : ListsValue → Guest → List Cursor → WaysValue
at_start lists v cursors = record { lists = lists; guest = v; cursors = cursors; walked = 0 }

-- the filer with another guest
abbrev pub ways_with : WaysValue → Guest → WaysValue
ways_with w v = record w { guest = v }

-- the cursor i has followed the link behind it, which leads to the chunk
abbrev pub after_link : WaysValue → ℕ → Cursor → ℕ → WaysValue
after_link w i a c = record {
  lists = w.lists;
  guest = after_read w.guest a.list (last_link (chunk_of a.reached)) (next_rank a.reached) c;
  cursors = slice_set w.cursors i (cursor_at a.list (next_rank a.reached) c);
  walked = w.walked + 1;
}

-- the guest has claimed a place behind the next link of the cursor
abbrev pub IsShort : Guest → Cursor → Type 0
IsShort v a = (i : ℕ) × (v.claim ≡ Place a.list i) × (256 * next_rank a.reached ≤ i)

-- the same guest later on: it forgets nothing
pub record IsLater (v u : Guest) : Type 0 where
  pub birth : u.birth ≡ v.birth
  pub still_out : u.out ≡ v.out
  pub knows : (f : Fact) → Knows v.facts f → Knows u.facts f

-- the cursor i has walked to the chunk, which has the rank
pub record HasReached (w u : WaysValue) (i r c : ℕ) : Type 0 where
  pub lists : u.lists ≡ w.lists
  pub later : IsLater w.guest u.guest
  pub claim : u.guest.claim ≡ w.guest.claim
  pub grants : u.guest.grants ≡ w.guest.grants
  pub cursors : (a : Cursor) → IsAt w.cursors i a → u.cursors ≡ slice_set w.cursors i (cursor_at a.list r c)

-- the guest gets no place in the list before the chunk any more: it has filed there, or it knows that the list is shut
pub data IsUsed (v : Guest) (l c : ℕ) : Type 0 where
  filed : (k x : ℕ) → Knows v.facts (Item l c k x) → IsUsed v l c
  shut : Knows v.facts (Closed l) → IsUsed v l c
  moved : (d k : ℕ) → Knows v.facts (Empty l d k) → IsUsed v l c

-- and so of the chunk that a cursor of the list has reached
abbrev pub IsSpent : Guest → ℕ → Option Reached → Type 0
IsSpent v l None = Unit {0}
IsSpent v l (Some p) = IsUsed v l p.chunk

-- the filer may file: it is out and has no claim, each list in which it has grants has a cursor, and no cursor stands past the next place
pub record IsReady (v : Guest) (cursors : List Cursor) : Type 0 where
  pub is_out : v.out ≡ true
  pub idle : v.claim ≡ Nothing
  pub granted : (l : ℕ) → 0 < granted_in l v.grants → HasCursor cursors l
  pub spent : (i : ℕ) (a : Cursor) → IsAt cursors i a → IsSpent v a.list a.reached

-- what the guest knows bears the answer out: the slot has the item, or the list is shut, or the slot was marked while it was empty; and the chunk is one of the list's claimed chain
abbrev pub IsShown : Guest → ℕ → ℕ → Filed → Type 0
IsShown v l x (At c k) = Knows v.facts (Item l c k x) × ((r : ℕ) × KnowsChunk v l r c)
IsShown v l x (Late Shut) = Knows v.facts (Closed l)
IsShown v l x (Late (Moved c k)) = Knows v.facts (Empty l c k) × ((r : ℕ) × KnowsChunk v l r c)

-- what a filing answers that had this slot, where the item stands or found a mark
abbrev pub answer_of : Bool → ℕ → ℕ → Filed
answer_of stands c k = if stands then At c k else Late (Moved c k)

-- the filer has filed the item in the list, or come late
pub record HasFiled (w u : WaysValue) (l x : ℕ) (filed : Filed) : Type 0 where
  pub lists : u.lists ≡ w.lists
  pub later : IsLater w.guest u.guest
  pub grants : u.guest.grants ≡ use_grant l w.guest.grants
  pub ready : IsReady u.guest u.cursors
  pub shown : IsShown u.guest l x filed
