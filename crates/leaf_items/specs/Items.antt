-- The items of lists, as contracts see them.
use Rattle.std.specs.Prelude.{ℕ, ◌+◌, ◌==◌, nat_le, nat_lt, if◌then◌else◌, List, [], ◌∷◌, ◌++◌, count_by, slice_index}

-- items by lists: for each item, in the order of admission, the list in which it now is; for each list how many items were
-- admitted when it was opened; the lists of the items that are admitted next, with no more memory; and how many lists
-- may be opened with no more memory
pub record ItemsValue : Type 0 where
  pub leaf : List ℕ
  pub born : List ℕ
  pub ready : List ℕ
  pub rooms : ℕ

-- the items of a list, ascending, where the first of some items has this number, and these are the lists in which they are
abbrev pub items_from : ℕ → List ℕ → ℕ → List ℕ
items_from first [] list = []
items_from first (l ∷ leaf) list = if l == list then first ∷ items_from (first + 1) leaf list else items_from (first + 1) leaf list

-- the items of a list, ascending
abbrev pub items_of : ItemsValue → ℕ → List ℕ
items_of value list = items_from 0 value.leaf list

-- how many items had been admitted when a list was opened
abbrev pub born_of : ItemsValue → ℕ → ℕ
born_of value list = slice_index value.born list

-- how many of some items are below a number
abbrev pub before : List ℕ → ℕ → ℕ
before items bound = count_by (λ item. nat_lt item bound) items

-- how many items of a list were admitted before it was opened: it owns them
abbrev pub owned : ItemsValue → ℕ → ℕ
owned value list = before (items_of value list) (born_of value list)

-- how many were admitted since: they were granted to it
abbrev pub granted : ItemsValue → ℕ → ℕ
granted value list = count_by (λ item. nat_le (born_of value list) item) (items_of value list)

-- once the items that are ready are admitted
abbrev pub with_ready : ItemsValue → ItemsValue
with_ready value = record value { leaf = value.leaf ++ value.ready; ready = [] }
