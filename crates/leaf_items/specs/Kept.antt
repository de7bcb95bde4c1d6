-- What is kept of items by lists.
use Rattle.std.specs.Prelude.{ℕ, ◌≡◌, ◌+◌, ◌<◌, ◌≤◌, ◌^◌, ◌==◌, List, length, map, All, count_by, vec_len}
use Rattle.std.specs.Vec.{vec_capacity}
use Rattle.leaf_items.specs.Items.{ItemsValue, items_from}
use Rattle.leaf_items.specs.Lists.{ListValue, list_at}
use Rattle.leaf_items.specs.declared.items.LeafItems.TheInside.{Inside}

-- how many items had been admitted when each of the lists was opened
abbrev pub births : List ListValue → List ℕ
births lists = map (λ (l : ListValue). l.born) lists

-- what contracts see of items by lists
abbrev pub value_of : Inside → ItemsValue
value_of a = record { leaf = a.leaf.items; born = births a.lists.items; ready = a.ready.items; rooms = a.rooms }

-- each list has its items, and memory for those that are ready
pub record AreLists (leaf ready : List ℕ) (lists : List ListValue) : Type 0 where
  pub have : (list : ℕ) → list < length lists → (list_at lists list).items ≡ items_from 0 leaf list
  pub want : (list : ℕ) → list < length lists → (list_at lists list).wanted ≡ count_by (λ l. l == list) ready
  pub placed : All (λ list. list < length lists) leaf
  pub aimed : All (λ list. list < length lists) ready
  pub early : (list : ℕ) → list < length lists → (list_at lists list).born ≤ length leaf

-- besides, there is memory, and there are numbers, for what is ready and for lists that are opened
pub record IsKept (a : Inside) : Type 0 where
  pub lists : AreLists a.leaf.items a.ready.items a.lists.items
  pub leaf_room : vec_len a.leaf + vec_len a.ready ≤ vec_capacity a.leaf
  pub few_items : vec_len a.leaf + vec_len a.ready < 2 ^ 32
  pub list_room : vec_len a.lists + a.rooms ≤ vec_capacity a.lists
  pub few_lists : vec_len a.lists + a.rooms < 2 ^ 32
