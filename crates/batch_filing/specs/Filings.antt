-- A batch that was admitted and is being filed.
use Rattle.std.specs.Prelude.{◌≡◌, ℕ, ◌+◌, ◌^◌, ◌<◌, ◌≤◌, List, count_by, drop, length, Some, nat_eq, slice_get, slice_index}
use Rattle.cube_math.specs.Batches.{BatchValue}
use Rattle.list_machine.specs.Grants.{granted_in}
use Rattle.list_words.specs.Filing.{Filing}
use Rattle.list_words.specs.declared.leaf_lists.Answer.{Answer}

-- a filing: its batch, the number of the batch's first item, the loader that brought it, for each item the list in which it
-- is filed, how many items were tried, and its filer
pub record FilingValue (F : Type 0) : Type 0 where
  pub batch : BatchValue
  pub first : ℕ
  pub loader : ℕ
  pub lists : List ℕ
  pub tried : ℕ
  pub filer : F

-- the list of the item that is filed next
abbrev pub next_list : {F : Type 0} → FilingValue F → ℕ
next_list f = slice_index f.lists f.tried

-- its number
abbrev pub next_item : {F : Type 0} → FilingValue F → ℕ
next_item f = f.first + f.tried

-- once one item more was tried
abbrev pub one_tried : {F : Type 0} → FilingValue F → F → FilingValue F
one_tried f filer = record f { tried = f.tried + 1; filer = filer }

-- how many of the lists are this one
abbrev pub times : ℕ → List ℕ → ℕ
times list lists = count_by (nat_eq list) lists

-- the answers are those of the first items, each filed in its list, in order
pub record AreAnswersOf (first : ℕ) (lists : List ℕ) (answers : List Answer) : Type 0 where
  pub few : length answers ≤ length lists
  pub each : (k : ℕ) (a : Answer) → slice_get answers k ≡ Some a → (a.item ≡ first + k) × (slice_get lists k ≡ Some a.list)

-- what a filer holds whose items, from the number `first` on, belong in these lists: so many were tried and answered, and
-- it may still file the others
pub record IsFilerOf (first : ℕ) (lists : List ℕ) (tried : ℕ) (filer : Filing) : Type 0 where
  pub numbered : first + length lists < 2 ^ 32
  pub many : length filer.answers ≡ tried
  pub answers : AreAnswersOf first lists filer.answers
  pub granted : (list : ℕ) → granted_in list filer.left ≡ times list (drop tried lists)
