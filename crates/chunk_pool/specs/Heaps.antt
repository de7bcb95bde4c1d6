-- The free numbers as a heap keeps them.
use Rattle.std.specs.Prelude.{◌≡◌, ℕ, ◌^◌, ◌<◌, ◌≤◌, List, map, length, IsTrue}
use Rattle.std.specs.Ordering.{nat_cmp}
use Rattle.std.specs.FinSet as set
use Rattle.std.specs.BinaryHeap.{heap_items, heap_capacity, IsHeap}
use Rattle.std.specs.declared.cmp.Reverse.{Reverse}
use Rattle.chunk_pool.specs.Numbers.{Numbers}
use Rattle.chunk_pool.specs.declared.pool.Pool.TheInside.{Inside}

-- the numbers in a heap with the least on top
abbrev pub plain : List (Reverse ℕ) → List ℕ
plain items = map (λ r. r.0) items

-- the set of them
abbrev pub set_of : List (Reverse ℕ) → set.FinSet nat_cmp
set_of items = set.from_list (plain items)

-- the pool's size, and the set of the numbers in its heap
abbrev pub numbers_of : Inside → Numbers
numbers_of a = record { size = a.size; free = set_of (heap_items a.free) }

-- the heap is in order, has each number once, and only numbers below the size, and has room for all of these
pub record IsKept (a : Inside) : Type 0 where
  pub ordered : IsHeap (λ x y. nat_cmp y.0 x.0) (heap_items a.free)
  pub once : set.len (set_of (heap_items a.free)) ≡ length (heap_items a.free)
  pub below : (k : ℕ) → IsTrue (set.contains (set_of (heap_items a.free)) k) → k < a.size
  pub room : a.size ≤ heap_capacity a.free
  pub fits : a.size < 2 ^ 32
