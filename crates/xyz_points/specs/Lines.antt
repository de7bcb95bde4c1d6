-- How a text is cut into lines, and a line into fields.
use Rattle.std.specs.Prelude.{ℕ, ◌-◌, ◌==◌, Bool, true, ◌||◌, not, List, [], ◌∷◌, map, filter, length, take, slice_index, nat_eq, codes, if◌then◌else◌}
use Rattle.std.specs.List.{slice_split, starts_with}

-- whether a list has nothing
abbrev pub is_empty : {X : Type 0} → List X → Bool
is_empty xs = length xs == 0

-- the pieces of a text, of which an empty one at the end is none
abbrev pub without_empty_rest : List (List ℕ) → List (List ℕ)
without_empty_rest [] = []
without_empty_rest (rest ∷ []) = if is_empty rest then [] else rest ∷ []
without_empty_rest (line ∷ next ∷ more) = line ∷ without_empty_rest (next ∷ more)

-- a line without the one carriage return at its end, if it has one
abbrev pub without_return : List ℕ → List ℕ
without_return line = if slice_index line (length line - 1) == 13 then take (length line - 1) line else line

-- the lines of a text: the pieces between line feeds
abbrev pub lines_of : List ℕ → List (List ℕ)
lines_of bytes = map without_return (without_empty_rest (slice_split (λ b. b == 10) bytes))

-- space, tab and comma
abbrev pub is_separator : ℕ → Bool
is_separator b = b == 32 || b == 9 || b == 44

-- the fields of a line: the pieces between separators that have something
abbrev pub fields_of : List ℕ → List (List ℕ)
fields_of line = filter (λ field. not (is_empty field)) (slice_split is_separator line)

-- whether a field begins a comment
abbrev pub is_comment : List ℕ → Bool
is_comment field = starts_with nat_eq field (codes "#") || starts_with nat_eq field (codes "//")

-- whether a line of these fields says nothing: it has none, or it is a comment
abbrev pub is_skipped : List (List ℕ) → Bool
is_skipped [] = true
is_skipped (first ∷ more) = is_comment first
