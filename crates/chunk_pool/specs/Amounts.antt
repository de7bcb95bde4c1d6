-- How many chunks items take.
use Rattle.std.specs.Prelude.{ℕ, ◌+◌, ◌-◌, ◌*◌, ◌/◌}

-- the chunks for so many items: 256 have room in each
abbrev pub chunks_for : ℕ → ℕ
chunks_for items = (items + 255) / 256

-- with so many chunks, the lists of an octree of a root cube with these bits never lack one, while at most so many points are
-- admitted and there are at most so many nodes
abbrev pub enough : ℕ → ℕ → ℕ → ℕ
enough bits points nodes = 2 * nodes + (bits - 6) * chunks_for points
