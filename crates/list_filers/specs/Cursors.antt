-- Where a filer stands in the claimed chain of each of its lists.
use Rattle.std.specs.Prelude.{◌≡◌, ℕ, suc, ◌<◌, List, Option, None, Some}
use Rattle.list_machine.specs.Facts.{IsAt}
use Rattle.list_machine.specs.declared.views.Grant.{Grant}
use Rattle.list_filers.specs.declared.cursors.Cursor.{Cursor}
use Rattle.list_filers.specs.declared.cursors.Reached.{Reached}

-- the lists of the cursors rise, so no two cursors are of one list
abbrev pub AreSorted : List Cursor → Type 0
AreSorted cursors = (i j : ℕ) (a b : Cursor) → IsAt cursors i a → IsAt cursors j b → i < j → a.list < b.list

-- one of the cursors is the list's
abbrev pub HasCursor : List Cursor → ℕ → Type 0
HasCursor cursors l = (i : ℕ) × (a : Cursor) × IsAt cursors i a × (a.list ≡ l)

-- the cursor of a list that stands at the chunk, which has this rank
abbrev pub cursor_at : ℕ → ℕ → ℕ → Cursor
cursor_at l r c = record { list = l; reached = Some record { rank = r; chunk = c } }

-- the rank to which the next link leads
abbrev pub next_rank : Option Reached → ℕ
next_rank None = 0
next_rank (Some p) = suc p.rank

-- the chunk behind which that link is, if not behind the list itself
abbrev pub chunk_of : Option Reached → Option ℕ
chunk_of None = None
chunk_of (Some p) = Some p.chunk

-- the cursor of a grant's list, in which no link was walked yet
abbrev pub fresh_cursor : Grant → Cursor
fresh_cursor g = record { list = g.list; reached = None }
