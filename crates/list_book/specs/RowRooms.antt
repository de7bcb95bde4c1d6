-- What the row of a list keeps of its own vectors.
use Rattle.std.specs.Prelude.{◌+◌, ◌≤◌, vec_len}
use Rattle.std.specs.Vec.{vec_capacity}
use Rattle.list_book.specs.Books.{BookRow}
use Rattle.list_book.specs.declared.list_row.ListRow.TheInside.{Inside}

-- what contracts see of the row of a list
abbrev pub row_of_list : Inside → BookRow
row_of_list a = record { phase = a.phase; claimed = a.claimed.items; owned = a.owned.items; granted = a.granted; used = a.used; claimed_room = a.claimed_room; owned_room = a.owned_room }

-- there is memory for the chunks that there is room for
pub record HasRoom (a : Inside) : Type 0 where
  pub claimed : vec_len a.claimed + a.claimed_room ≤ vec_capacity a.claimed
  pub owned : vec_len a.owned + a.owned_room ≤ vec_capacity a.owned
