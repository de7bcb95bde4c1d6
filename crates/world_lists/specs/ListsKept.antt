-- What the lists of a world keep.
use Rattle.std.specs.Prelude.{◌≡◌, ℕ, ◌<◌, ◌≤◌, length, slice_index}
use Rattle.list_machine.specs.Facts.{IsAt, Chain, chain_of}
use Rattle.list_machine.specs.declared.views.Leaf.{Leaf}
use Rattle.list_machine.specs.declared.views.Owner.{Owner}
use Rattle.world_words.specs.WordRows.{WordRows, list_count, made_count}
use Rattle.world_book.specs.Owners.{leaf_at}
use Rattle.world_lists.specs.Lists.{ListsValue}
use Rattle.world_lists.specs.declared.lists.Lists.TheInside.{Inside}

-- what contracts see of lists
abbrev pub lists_of : Inside → ListsValue
lists_of a = record { words = a.words; owner = a.book; seats = a.seats.items }

-- each chunk of the chains was made
abbrev pub IsMade : ℕ → Leaf → Type 0
IsMade made a = (y : Chain) (r c : ℕ) → IsAt (chain_of a y) r c → c < made

-- all lists have their words, and their chunks were made; and no more seats are counted than there are
pub record AreKept (words : WordRows) (owner : Owner) (seats : ℕ) : Type 0 where
  pub lists : list_count words ≡ length owner.book.leaves
  pub made : (l : ℕ) → IsMade (made_count words) (leaf_at owner l)
  pub few : (b : ℕ) → slice_index owner.out b ≤ seats

abbrev pub AreLists : Inside → Type 0
AreLists a = AreKept a.words a.book (length a.seats.items)
