-- The owner's view as a book keeps it, which knows no facts about words.
use Rattle.std.specs.Prelude.{◌≡◌, ℕ, zero, suc, List, Option, None, Some, ◌-◌, ◌*◌, ◌/◌, ◌<◌, ◌≤◌, ◌^◌, [], length, slice_index, slice_index_or, slice_set}
use Rattle.list_machine.specs.State.{zero_words}
use Rattle.list_machine.specs.Machine.{State, state}
use Rattle.list_machine.specs.Moves.{chunk_count}
use Rattle.list_machine.specs.Steps.{opening_leaf}
use Rattle.list_machine.specs.declared.views.Leaf.{Leaf}
use Rattle.list_machine.specs.declared.views.Owner.{Owner}
use Rattle.list_machine.specs.declared.views.Stage.TheVariants.{Swept, Cleared}

-- the owner without its facts
abbrev pub without_facts : Owner → Owner
without_facts o = record o { facts = [] }

-- the lists of a book alone
abbrev pub state_of : Owner → State
state_of o = state zero_words o []

-- the list of a number
abbrev pub leaf_at : Owner → ℕ → Leaf
leaf_at o l = slice_index_or o.book.leaves l opening_leaf

-- the list was shut and swept this far, and the slot that is marked next has its chunk
pub record HasMark (a : Leaf) : Type 0 where
  pub place : ℕ
  pub found : ℕ
  pub marks : ℕ
  pub swept : a.stage ≡ Swept place found marks
  pub claimed : marks < found → marks / 256 < length a.claimed
  pub owned : found ≤ marks → (marks - found) / 256 < length a.owned
  pub few : marks < 2 ^ 63

-- the clearing of the list has begun, and words are left
pub record HasWord (a : Leaf) : Type 0 where
  pub place : ℕ
  pub words : ℕ
  pub clearing : a.stage ≡ Cleared place words
  pub some : 1 ≤ words
  pub left : words ≤ 257 * chunk_count a

-- a seat of a birth was taken back
abbrev pub counted_off : Owner → ℕ → Owner
counted_off o birth = record o { out = slice_set o.out birth (slice_index o.out birth - 1) }

-- the last of the first chunks of a chain, so many
abbrev pub last_chunk : List ℕ → ℕ → Option ℕ
last_chunk chain zero = None
last_chunk chain (suc r) = Some (slice_index chain r)
