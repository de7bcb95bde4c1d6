-- One list over vectors, as plain data.
use Rattle.std.specs.Prelude.{ℕ, ◌+◌, ◌-◌, max, List, [], ◌∷◌, ◌++◌, Some, map, if◌then◌else◌}
use Rattle.list_words.specs.declared.leaf_lists.Phase.{Phase}
use Rattle.list_words.specs.declared.leaf_lists.Phase.TheVariants.{Fresh, Open, Shut}
use Rattle.list_words.specs.Store.{Row, is_shut}

-- its phase, the chunks of the claimed chain and the items filed in its slots in order, the chunks of the owned
-- chain and the items placed there in order, how many claimed slots were granted, and room for more chunks
pub record PlainList : Type 0 where
  pub phase : Phase
  pub claimed : List ℕ
  pub filed : List ℕ
  pub owned : List ℕ
  pub placed : List ℕ
  pub granted : ℕ
  pub claimed_room : ℕ
  pub owned_room : ℕ

-- a list that was never opened
abbrev pub no_list : PlainList
no_list = record { phase = Fresh; claimed = []; filed = []; owned = []; placed = []; granted = 0; claimed_room = 0; owned_room = 0 }

-- the items of a list: those that were filed and those that were placed
abbrev pub items_of : PlainList → List ℕ
items_of p = p.filed ++ p.placed

-- the same list as each kind of lists shows it
abbrev pub row_of : PlainList → Row
row_of p = record { phase = p.phase; claimed = p.claimed; owned = p.owned; granted = p.granted; placed = p.placed; marked = if is_shut p.phase then map Some p.filed else []; claimed_room = p.claimed_room; owned_room = p.owned_room }

-- there is room for at least so many more chunks in each chain
abbrev pub roomier_list : PlainList → ℕ → ℕ → PlainList
roomier_list p claimed owned = record p { claimed_room = max p.claimed_room claimed; owned_room = max p.owned_room owned }

-- it takes items, and has two empty chains
abbrev pub opened_list : PlainList → PlainList
opened_list p = record p { phase = Open; claimed = []; filed = []; owned = []; placed = []; granted = 0 }

-- a chunk stands at the end of the claimed chain
abbrev pub linked_list : PlainList → ℕ → PlainList
linked_list p c = record p { claimed = p.claimed ++ c ∷ []; claimed_room = p.claimed_room - 1 }

-- a chunk stands at the end of the owned chain
abbrev pub lengthened_list : PlainList → ℕ → PlainList
lengthened_list p c = record p { owned = p.owned ++ c ∷ []; owned_room = p.owned_room - 1 }

-- an item stands in the next claimed slot
abbrev pub filed_list : PlainList → ℕ → PlainList
filed_list p item = record p { filed = p.filed ++ item ∷ [] }

-- an item stands in the next owned slot
abbrev pub placed_list : PlainList → ℕ → PlainList
placed_list p item = record p { placed = p.placed ++ item ∷ [] }

-- so many more claimed slots were granted
abbrev pub granted_list : PlainList → ℕ → PlainList
granted_list p n = record p { granted = p.granted + n }

-- it was shut
abbrev pub shut_list : PlainList → PlainList
shut_list p = record p { phase = Shut }

-- it was cleared
abbrev pub emptied_list : PlainList → PlainList
emptied_list p = record p { claimed = []; filed = []; owned = []; placed = []; claimed_room = 0; owned_room = 0 }
