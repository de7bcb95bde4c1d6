-- One list of items.
use Rattle.std.specs.Prelude.{ℕ, ◌-◌, List, [], ◌∷◌, ◌++◌, map, slice_index_or}

-- a list: how many items were admitted when it was opened, for how many items more there is memory, and its items
pub record ListValue : Type 0 where
  pub born : ℕ
  pub wanted : ℕ
  pub items : List ℕ

-- a list without items
abbrev pub no_list : ListValue
no_list = record { born = 0; wanted = 0; items = [] }

-- the list with a number; past the last one, a list without items
abbrev pub list_at : List ListValue → ℕ → ListValue
list_at lists list = slice_index_or lists list no_list

-- a list once it has an item more, for which there was memory
abbrev pub appended : ListValue → ℕ → ListValue
appended list item = record list { wanted = list.wanted - 1; items = list.items ++ item ∷ [] }

-- the lists that are opened for parts, after so many admitted items
abbrev pub opened_lists : ℕ → List (List ℕ) → List ListValue
opened_lists born parts = map (λ (items : List ℕ). record { born = born; wanted = 0; items = items }) parts
