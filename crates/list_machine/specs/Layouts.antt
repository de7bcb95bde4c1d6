-- The words of all lists in one row of numbers of 64 bits, as a table of atomic words has them.
use Rattle.std.specs.Prelude.{ℕ, ◌+◌, ◌*◌, Bool, if◌then◌else◌, ◌&&◌, nat_lt, List, slice_index}
use Rattle.list_machine.specs.Words.{decode}
use Rattle.list_machine.specs.State.{Words}
use Rattle.list_machine.specs.declared.views.LinkWord.{LinkWord}
use Rattle.list_machine.specs.declared.views.LinkWord.TheVariants.{OfList, OfChunk}

-- First stand the claim words, then the lists' own links, then the links of chunks, then their slots.
abbrev pub word_count : ℕ → ℕ → ℕ
word_count lists chunks = lists + lists + chunks + 256 * chunks

-- the place of a link word, of the list l or of a chunk
abbrev pub link_place : ℕ → ℕ → LinkWord → ℕ
link_place lists l OfList = lists + l
link_place lists l (OfChunk c) = lists + lists + c

-- the place of the slot k of the chunk c
abbrev pub slot_place : ℕ → ℕ → ℕ → ℕ → ℕ
slot_place lists chunks c k = lists + lists + chunks + (256 * c + k)

-- the number at this place, where the row has one for it
abbrev pub word_if : Bool → List ℕ → ℕ → ℕ
word_if has words i = if has then slice_index words i else 0

-- the words that a row holds; past the lists, the chunks and their slots all words are 0
abbrev pub words_of : ℕ → ℕ → List ℕ → Words
words_of lists chunks words = record {
  claim = λ l. decode (word_if (nat_lt l lists) words l);
  first = λ l. word_if (nat_lt l lists) words (link_place lists l OfList);
  next = λ c. word_if (nat_lt c chunks) words (link_place lists 0 (OfChunk c));
  slot = λ c k. decode (word_if (nat_lt c chunks && nat_lt k 256) words (slot_place lists chunks c k));
}
