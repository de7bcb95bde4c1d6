-- The words of lists in rows of numbers of 64 bits, of which those of a chunk are made when it first joins a chain.
use Rattle.std.specs.Prelude.{◌≡◌, ℕ, ◌+◌, ◌*◌, ◌<◌, nat_lt, List, length, slice_index, Option, None, Some, if◌then◌else◌}
use Rattle.list_machine.specs.Words.{decode}
use Rattle.list_machine.specs.State.{Words}
use Rattle.list_machine.specs.declared.views.LinkWord.{LinkWord}
use Rattle.list_machine.specs.declared.views.LinkWord.TheVariants.{OfList, OfChunk}

-- of each list its claim word and its first link, and of each chunk that was made its link and its 256 slots
pub record WordRows : Type 0 where
  pub claims : List ℕ
  pub firsts : List ℕ
  pub nexts : List ℕ
  pub slots : List ℕ

-- the number in a slot of a chunk
abbrev pub slot_number : List ℕ → ℕ → ℕ → ℕ
slot_number slots c k = if nat_lt k 256 then slice_index slots (256 * c + k) else 0

-- the words that the rows hold; all others, which were not made yet, are 0
abbrev pub words_in : WordRows → Words
words_in r = record {
  claim = λ l. decode (slice_index r.claims l);
  first = λ l. slice_index r.firsts l;
  next = λ c. slice_index r.nexts c;
  slot = λ c k. decode (slot_number r.slots c k);
}

-- for how many lists the rows have words, and for how many chunks
abbrev pub list_count : WordRows → ℕ
list_count r = length r.claims

abbrev pub made_count : WordRows → ℕ
made_count r = length r.nexts

-- the rows have words for so many lists and chunks, and hold these
pub record Hold (r : WordRows) (l c : ℕ) (w : Words) : Type 0 where
  pub lists : list_count r ≡ l
  pub chunks : made_count r ≡ c
  pub words : words_in r ≡ w

-- the link word behind the last chunk of a chain, or behind none
abbrev pub link_behind : Option ℕ → LinkWord
link_behind None = OfList
link_behind (Some c) = OfChunk c

-- the rows have this link word: its list is one of theirs, and its chunk was made
abbrev pub HasLink : WordRows → ℕ → Option ℕ → Type 0
HasLink r l None = l < list_count r
HasLink r l (Some c) = c < made_count r
