-- The words of a text, with their places.
use Rattle.std.specs.Prelude.{ℕ, ◌+◌, ◌==◌, Bool, ◌||◌, not, List, [], ◌∷◌, filter, length}
use Rattle.std.specs.List.{slice_split}

-- space, tab, carriage return and line feed
abbrev pub is_blank : ℕ → Bool
is_blank byte = byte == 32 || byte == 9 || byte == 13 || byte == 10

-- a word: the place of its first byte, and its bytes
pub record Word : Type 0 where
  pub at : ℕ
  pub text : List ℕ

-- pieces with one byte between two of them, where the first one begins at this place
abbrev pub placed : ℕ → List (List ℕ) → List Word
placed at [] = []
placed at (piece ∷ pieces) = record { at = at; text = piece } ∷ placed (at + length piece + 1) pieces

-- whether there is anything in it
abbrev pub is_some_text : Word → Bool
is_some_text w = not (length w.text == 0)

-- the pieces between blanks that have something, of a text whose first byte is at this place
abbrev pub words_from : ℕ → List ℕ → List Word
words_from at bytes = filter is_some_text (placed at (slice_split is_blank bytes))

-- the words of a text
abbrev pub words : List ℕ → List Word
words bytes = words_from 0 bytes
