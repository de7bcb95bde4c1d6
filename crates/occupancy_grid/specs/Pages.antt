-- Cells kept as bits, in pages of 512 words with 64 bits each. A page that is not made has no words.
use Rattle.std.specs.Prelude.{ℕ, ◌≡◌, ◌<◌, ◌*◌, ◌/◌, ◌%◌, Bool, true, not, ◌==◌, List, [], length, filter, slice_index, slice_index_or, EachIndex}
use Rattle.std.specs.Int.{bit_at}
use Rattle.octree_model.specs.Numbers.{up_to}

-- the number of the page in which a cell stands
abbrev pub page_of : ℕ → ℕ
page_of z = z / 32768

-- the words of a page
abbrev pub words_of : List (List ℕ) → ℕ → List ℕ
words_of pages p = slice_index_or pages p []

-- whether a page is made
abbrev pub is_made : List (List ℕ) → ℕ → Bool
is_made pages p = not (length (words_of pages p) == 0)

-- whether the bit of a cell is set
abbrev pub is_marked : List (List ℕ) → ℕ → Bool
is_marked pages z = bit_at (slice_index (words_of pages (page_of z)) (z / 64 % 512)) (z % 64) == 1

-- the cells whose bits are set, ascending
unfoldable pub marked_cells : List (List ℕ) → List ℕ
marked_cells pages = filter (is_marked pages) (up_to (32768 * length pages))

-- the pages that are made, ascending
unfoldable pub made_pages : List (List ℕ) → List ℕ
made_pages pages = filter (is_made pages) (up_to (length pages))

-- 64 pages, each of them with all its words or with none, and the number of the cells whose bits are set
pub record IsPaged (pages : List (List ℕ)) (count : ℕ) : Type 0 where
  pub many : length pages ≡ 64
  pub whole : (p : ℕ) → is_made pages p ≡ true → length (words_of pages p) ≡ 512
  pub counted : count ≡ length (marked_cells pages)

-- 64 pages of which none is made
pub record HasNoPages (pages : List (List ℕ)) : Type 0 where
  pub many : length pages ≡ 64
  pub unmade : (p : ℕ) → words_of pages p ≡ []

-- the words of a page without a cell
pub record IsFullOfZeros (words : List ℕ) : Type 0 where
  pub long : length words ≡ 512
  pub zeros : EachIndex words (λ k. slice_index words k ≡ 0)

-- a page that had no words has those without a cell, and another one has its words
pub record IsMadeOf (old new : List ℕ) : Type 0 where
  pub kept : 0 < length old → new ≡ old
  pub filled : length old ≡ 0 → IsFullOfZeros new
