-- The lists of a world as they stand in memory.
use Rattle.std.specs.Prelude.{◌≡◌, ℕ, List, map, Option}
use Rattle.list_machine.specs.Words.{item_in}
use Rattle.list_machine.specs.Machine.{State}
use Rattle.list_machine.specs.declared.views.Guest.{Guest}
use Rattle.list_machine.specs.declared.views.Owner.{Owner}
use Rattle.world_words.specs.WordRows.{WordRows, words_in}
use Rattle.world_book.specs.Owners.{without_facts}
use Rattle.world_lists.specs.Seats.{bare}

-- the words, what the owner keeps, and the seats
pub record ListsValue : Type 0 where
  pub words : WordRows
  pub owner : Owner
  pub seats : List Guest

-- the lists stand in this state, but for what its seats know and may still claim
pub record Shows (v : ListsValue) (s : State) : Type 0 where
  pub words : words_in v.words ≡ s.words
  pub owner : v.owner ≡ without_facts s.owner
  pub guests : v.seats ≡ map bare s.guests

-- the lists make this move: in whatever state they stood, they stand behind it in the one that it makes of that
abbrev pub Make : ListsValue → ListsValue → (State → State) → Type 0
Make old new move = (s : State) → Shows old s → Shows new (move s)

-- the item in a slot, which is told by its chunk and its number there
abbrev pub item_at : ListsValue → ℕ × ℕ → Option ℕ
item_at v at = item_in ((words_in v.words).slot at.0 at.1)
