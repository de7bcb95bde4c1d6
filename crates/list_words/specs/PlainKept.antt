-- What lists over vectors keep.
use Rattle.std.specs.Prelude.{◌≡◌, ℕ, suc, ◌+◌, ◌^◌, ◌<◌, ◌≤◌, Bool, List, [], length, sum, sum_by, slice_get, slice_index, Some, vec_len}
use Rattle.std.specs.Vec.{vec_capacity}
use Rattle.std.specs.FinSet as set
use Rattle.chunk_pool.specs.Numbers.{Numbers, IsFree}
use Rattle.list_words.specs.PlainRows.{PlainList}
use Rattle.list_words.specs.Plain.{Plain, list_in, chunk_at, chunk_count, held_chunks, shut_count}
use Rattle.list_words.specs.declared.leaf_lists.Phase.TheVariants.{Shut}
use Rattle.list_words.specs.declared.plain_homes.Home.{Home}
use Rattle.list_words.specs.declared.plain_lists.PlainLists.TheInside.{Inside}

-- the home of the chunk of rank r in one of the chains of the list l
abbrev pub home_of : ℕ → Bool → ℕ → Home
home_of l owned r = record { list = l; owned = owned; rank = r }

-- a chunk has no place in a chain
abbrev pub IsUnplaced : List PlainList → ℕ → Type 0
IsUnplaced lists c = (owned : Bool) (l r : ℕ) → chunk_at lists owned l r ≡ Some c → ⊥

-- each chunk of a chain has its place there as its home, and is not free; each other chunk is free
pub record AreHomed (lists : List PlainList) (homes : List Home) (pool : Numbers) : Type 0 where
  pub home : (owned : Bool) (l r c : ℕ) → chunk_at lists owned l r ≡ Some c → slice_get homes c ≡ Some (home_of l owned r)
  pub taken : (owned : Bool) (l r c : ℕ) → chunk_at lists owned l r ≡ Some c → IsFree pool c → ⊥
  pub unplaced : (c : ℕ) → c < pool.size → IsUnplaced lists c → IsFree pool c
  pub size : pool.size ≡ length homes

-- each chunk is free or in a chain, and what is held and what is shut was counted
pub record AreSummed (lists : List PlainList) (pool : Numbers) (held_count shut_lists : ℕ) : Type 0 where
  pub total : sum_by chunk_count lists + set.len pool.free ≡ pool.size
  pub held : held_count ≡ sum_by held_chunks lists
  pub shuts : shut_lists ≡ sum_by shut_count lists

-- the lists of the order are shut, and nobody is out who was born before the last list that is cleared was shut
pub record AreOrdered (lists : List PlainList) (order : List ℕ) (cleared : ℕ) (out : List ℕ) (seat_count : ℕ) : Type 0 where
  pub shut : (p l : ℕ) → slice_get order p ≡ Some l → (list_in lists l).phase ≡ Shut
  pub begun : cleared ≤ length order
  pub births : length out ≡ suc (length order)
  pub past : (b : ℕ) → b < cleared → slice_index out b ≡ 0
  pub seats : seat_count ≡ sum out

-- what contracts see of lists over vectors
abbrev pub plain_of : Inside → Plain
plain_of a = record { lists = a.rows.items; chunks = a.pool.size; free = set.len a.pool.free; order = a.order.items; cleared = a.cleared; out = a.out.items; grants_room = a.grants_room; items_room = a.items_room; given = a.given }

-- besides, there is memory for all lists in the order, and for the next filer
pub record IsKept (a : Inside) : Type 0 where
  pub homed : AreHomed a.rows.items a.homes.items a.pool
  pub summed : AreSummed a.rows.items a.pool a.held (length a.order.items)
  pub ordered : AreOrdered a.rows.items a.order.items a.cleared a.out.items a.seats
  pub order_room : vec_len a.rows ≤ vec_capacity a.order
  pub out_room : vec_len a.rows + 1 ≤ vec_capacity a.out
  pub grants_room : a.grants_room ≤ vec_capacity a.spare_grants
  pub items_room : a.items_room ≤ vec_capacity a.spare_answers
  pub no_grants : a.spare_grants.items ≡ []
  pub no_answers : a.spare_answers.items ≡ []
  pub few_lists : vec_len a.rows ≤ 200000
  pub few_chunks : a.pool.size ≤ 1000000
  pub few_given : a.given < 2 ^ 31
