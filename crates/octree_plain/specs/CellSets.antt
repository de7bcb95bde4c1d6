-- Sets of cells, kept as one bit a cell.
use Rattle.std.specs.Prelude.{ℕ, ◌*◌, ◌/◌, ◌%◌, Bool, ◌==◌, List, length, filter, slice_index}
use Rattle.std.specs.Int.{bit_at}
use Rattle.octree_model.specs.Numbers.{up_to}

-- whether the bit of a cell is set
abbrev pub is_marked : List ℕ → ℕ → Bool
is_marked words z = bit_at (slice_index words (z / 64)) (z % 64) == 1

-- the cells whose bits are set, ascending
unfoldable pub marked_cells : List ℕ → List ℕ
marked_cells words = filter (is_marked words) (up_to (64 * length words))

-- the places of the bits that are set in a word, ascending
unfoldable pub set_bits : ℕ → List ℕ
set_bits word = filter (λ b. bit_at word b == 1) (up_to 64)
