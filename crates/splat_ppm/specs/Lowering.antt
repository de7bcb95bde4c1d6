-- Lists of keys, some of which are lowered.
use Rattle.std.specs.Prelude.{ℕ, ◌≡◌, ◌<◌, List, length, slice_index_or, min, Bool, ◌&&◌, nat_le, nat_lt, ◌/◌, ◌%◌, if◌then◌else◌}

-- whether a number lies from a first one on, below an end
abbrev pub lies_in : ℕ → ℕ → ℕ → Bool
lies_in first end k = nat_le first k && nat_lt k end

-- whether a pixel, by its place in rows of so many, lies in some columns and rows
abbrev pub lies_in_square : ℕ → ℕ → ℕ → ℕ → ℕ → ℕ → Bool
lies_in_square width left right top bottom k = lies_in left right (k % width) && lies_in top bottom (k / width)

-- the numbers at some places are lowered to a key where it is less, and no others change
pub record AreLowered (here : ℕ → Bool) (key : ℕ) (old new : List ℕ) : Type 0 where
  pub long : length new ≡ length old
  pub at : (k : ℕ) → k < length old → slice_index_or new k 0 ≡ (if here k then min (slice_index_or old k 0) key else slice_index_or old k 0)
