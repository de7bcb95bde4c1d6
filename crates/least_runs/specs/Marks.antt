-- Sets of cells as bits in words, with a bit for each word.
use Rattle.std.specs.Prelude.{ℕ, ◌≡◌, ◌≢◌, ◌*◌, ◌+◌, List, length, map, slice_index, true}
use Rattle.std.specs.List.{flat_map}
use Rattle.octree_model.specs.Numbers.{has}
use Rattle.octree_plain.specs.CellSets.{marked_cells, set_bits}

-- there is a bit for each of 2^21 cells, and each word that is not 0 has its bit above
pub record AreMarks (words upper : List ℕ) : Type 0 where
  pub words_long : length words ≡ 32768
  pub upper_long : length upper ≡ 512
  pub known : (w : ℕ) → slice_index words w ≢ 0 → has w (marked_cells upper) ≡ true

-- the cells of one word
abbrev pub word_cells : List ℕ → ℕ → List ℕ
word_cells words w = map (λ b. 64 * w + b) (set_bits (slice_index words w))

-- the cells of some of the words, one word after the other
abbrev pub cells_of_words : List ℕ → List ℕ → List ℕ
cells_of_words words ws = flat_map (word_cells words) ws
