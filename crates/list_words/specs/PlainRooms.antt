-- What a list over vectors keeps of its own vectors.
use Rattle.std.specs.Prelude.{◌≡◌, ◌+◌, ◌*◌, ◌≤◌, [], vec_len}
use Rattle.std.specs.Vec.{vec_capacity}
use Rattle.list_words.specs.declared.leaf_lists.Phase.TheVariants.{Fresh, Shut}
use Rattle.list_words.specs.declared.plain_row.PlainRow.TheInside.{Inside}
use Rattle.list_words.specs.PlainRows.{PlainList}

-- what contracts see of a list over vectors
abbrev pub list_of : Inside → PlainList
list_of a = record { phase = a.phase; claimed = a.claimed.items; filed = a.filed.items; owned = a.owned.items; placed = a.placed.items; granted = a.granted; claimed_room = a.claimed_room; owned_room = a.owned_room }

-- there is memory for the chunks and items that there is room for, and items stand in the slots of the chunks
pub record IsRoomy (a : Inside) : Type 0 where
  pub claimed : vec_len a.claimed + a.claimed_room ≤ vec_capacity a.claimed
  pub filed : 256 * (vec_len a.claimed + a.claimed_room) ≤ vec_capacity a.filed
  pub owned : vec_len a.owned + a.owned_room ≤ vec_capacity a.owned
  pub placed : 256 * (vec_len a.owned + a.owned_room) ≤ vec_capacity a.placed
  pub filed_in_slots : vec_len a.filed ≤ 256 * vec_len a.claimed
  pub placed_in_slots : vec_len a.placed ≤ 256 * vec_len a.owned
  pub granted_slots : (a.phase ≡ Shut → ⊥) → (vec_len a.filed ≤ a.granted) × (a.granted ≤ 256 * vec_len a.claimed)
  pub fresh : a.phase ≡ Fresh → (a.claimed.items ≡ []) × (a.filed.items ≡ []) × (a.owned.items ≡ []) × (a.placed.items ≡ []) × (a.granted ≡ 0)
