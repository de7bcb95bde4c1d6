-- Tables of places, one for each cell of a node.
use Rattle.std.specs.Prelude.{ℕ, ◌≡◌, ◌<◌, ◌^◌, List, length, Some, slice_index, slice_index_or, true}
use Rattle.octree_model.specs.Numbers.{has, ascending, least}
use Rattle.voxel_sampler.specs.Nears.{NearValue, near_key, cells_of, keys_in}

-- the entry at a place that no list has
abbrev pub no_near : NearValue
no_near = record { cell = 0; far = 0; rgb = 0 }

-- the entry of a cell: it stands among the entries at the cell's place
abbrev pub entry_at : List ℕ → List NearValue → ℕ → NearValue
entry_at places nears z = slice_index_or nears (slice_index places z) no_near

-- a cell has a place, and its only entry stands there
pub record HasEntry (places : List ℕ) (nears : List NearValue) (z : ℕ) : Type 0 where
  pub small : z < 2 ^ 21
  pub within : slice_index places z < length nears
  pub own : (entry_at places nears z).cell ≡ z
  pub only : least (keys_in nears z) ≡ Some (near_key (entry_at places nears z))

-- the cells are those of the entries, and each of them has one entry, at the cell's place
pub record IsTable (cells places : List ℕ) (nears : List NearValue) : Type 0 where
  pub places_long : length places ≡ 2097152
  pub found : cells ≡ ascending (cells_of nears)
  pub few : length nears ≡ length cells
  pub each : (z : ℕ) → has z cells ≡ true → HasEntry places nears z
