-- What a book keeps.
use Rattle.std.specs.Prelude.{ℕ, ◌+◌, ◌^◌, ◌<◌, ◌≤◌, List, [], length, map, vec_len}
use Rattle.std.specs.Vec.{vec_capacity}
use Rattle.std.specs.FinSet as set
use Rattle.chunk_pool.specs.Numbers.{Numbers}
use Rattle.list_words.specs.PlainRows.{PlainList}
use Rattle.list_words.specs.PlainKept.{AreHomed, AreOrdered, AreSummed}
use Rattle.list_words.specs.declared.plain_homes.Home.{Home}
use Rattle.list_book.specs.Books.{BookRow, BookValue, IsOrderOfShut, IsSized, row_at}
use Rattle.list_book.specs.declared.book.Book.TheInside.{Inside}

-- a row as a list over vectors without items
abbrev pub bare_list : BookRow → PlainList
bare_list r = record { phase = r.phase; claimed = r.claimed; filed = []; owned = r.owned; placed = []; granted = r.granted; claimed_room = r.claimed_room; owned_room = r.owned_room }

-- what contracts see of a book
abbrev pub book_of : Inside → BookValue
book_of a = record { chunks = a.pool.size; rows = a.rows.items; free = set.len a.pool.free; order = a.order.items; cleared = a.cleared; out = a.out.items; given = a.given }

-- Each chunk of a chain has a home, which is its one place, and no other chunk is taken; what is held, shut and
-- out was counted; and the order is that of the shut lists.
pub record IsSound (rows : List BookRow) (pool : Numbers) (held_count : ℕ) (order : List ℕ) (cleared : ℕ) (out : List ℕ) (seat_count : ℕ) : Type 0 where
  pub homes : List Home
  pub homed : AreHomed (map bare_list rows) homes pool
  pub summed : AreSummed (map bare_list rows) pool held_count (length order)
  pub ordered : AreOrdered (map bare_list rows) order cleared out seat_count
  pub listed : IsOrderOfShut rows order cleared

-- besides, the rows are sized, and there is memory for all lists in the order
pub record IsKept (a : Inside) : Type 0 where
  pub sound : IsSound a.rows.items a.pool a.held a.order.items a.cleared a.out.items a.seats
  pub sized : (l : ℕ) → IsSized (row_at a.rows.items l)
  pub order_room : vec_len a.rows ≤ vec_capacity a.order
  pub out_room : vec_len a.rows + 1 ≤ vec_capacity a.out
  pub few_lists : vec_len a.rows ≤ 200000
  pub few_chunks : a.pool.size ≤ 1000000
  pub few_given : a.given < 2 ^ 31
