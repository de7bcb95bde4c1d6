-- The words of all lists at one moment, and these with one word changed.
use Rattle.std.specs.Prelude.{ℕ, if◌then◌else◌, ◌==◌}
use Rattle.list_machine.specs.Words.{Word, blank}
use Rattle.list_machine.specs.declared.views.LinkWord.{LinkWord}
use Rattle.list_machine.specs.declared.views.LinkWord.TheVariants.{OfList, OfChunk}

-- all words, each found by its list, or by its chunk
pub record Words : Type 0 where
  -- of a list: how many places were claimed, and whether it is shut
  pub claim : ℕ → Word
  -- of a list: the link to its first claimed chunk
  pub first : ℕ → ℕ
  -- of a chunk: the link to the next claimed chunk
  pub next : ℕ → ℕ
  -- of a chunk and a number below 256: the item + 1, and whether it was moved
  pub slot : ℕ → ℕ → Word

-- all words are 0
abbrev pub zero_words : Words
zero_words = record { claim = λ l. blank; first = λ l. 0; next = λ c. 0; slot = λ c k. blank }

-- the function that is x at k, and f elsewhere
abbrev pub put : {X : Type 0} → (ℕ → X) → ℕ → X → ℕ → X
put f k x j = if j == k then x else f j

-- the value of a link word, of a list with this first link
abbrev pub link_in : ℕ → (ℕ → ℕ) → LinkWord → ℕ
link_in first next OfList = first
link_in first next (OfChunk b) = next b

-- the value of a link word, which is the list's own or that of one of its chunks
abbrev pub link_at : Words → ℕ → LinkWord → ℕ
link_at w l from = link_in (w.first l) w.next from

-- the words with this claim word for the list l
abbrev pub put_claim : Words → ℕ → Word → Words
put_claim w l x = record w { claim = put w.claim l x }

-- the words with this word in the slot k of the chunk c
abbrev pub put_slot : Words → ℕ → ℕ → Word → Words
put_slot w c k x = record w { slot = put w.slot c (put (w.slot c) k x) }

-- the first links after a change of this link word
abbrev pub first_with : (ℕ → ℕ) → ℕ → LinkWord → ℕ → ℕ → ℕ
first_with first l OfList n = put first l n
first_with first l (OfChunk b) n = first

-- the links of chunks after a change of this link word
abbrev pub next_with : (ℕ → ℕ) → LinkWord → ℕ → ℕ → ℕ
next_with next OfList n = next
next_with next (OfChunk b) n = put next b n

-- the words with this value in a link word of the list l
abbrev pub put_link : Words → ℕ → LinkWord → ℕ → Words
put_link w l from n = record w { first = first_with w.first l from n; next = next_with w.next from n }
