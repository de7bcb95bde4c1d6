-- The fields of a file, by their places. Numbers are little endian.
use Rattle.std.specs.Prelude.{ℕ, ℤ, ◌==◌, List, slice_index, slice_range, if◌then◌else◌}
use Rattle.std.specs.Int.{w32, cast_signed}
use Rattle.byteorder.specs.Endian.{little_from}

-- the number in the two bytes from a place on
abbrev pub u16_at : List ℕ → ℕ → ℕ
u16_at bytes place = little_from place 2 bytes

-- the number in the four bytes from a place on
abbrev pub u32_at : List ℕ → ℕ → ℕ
u32_at bytes place = little_from place 4 bytes

-- the number in the eight bytes from a place on
abbrev pub u64_at : List ℕ → ℕ → ℕ
u64_at bytes place = little_from place 8 bytes

-- the number in the four bytes from a place on, in two's complement
abbrev pub i32_at : List ℕ → ℕ → ℤ
i32_at bytes place = cast_signed w32 (u32_at bytes place)

-- the first number of the version
abbrev pub major : List ℕ → ℕ
major bytes = slice_index bytes 24

-- the second number of the version
abbrev pub minor : List ℕ → ℕ
minor bytes = slice_index bytes 25

-- where the points start
abbrev pub points_start : List ℕ → ℕ
points_start bytes = u32_at bytes 96

-- the number of the point format
abbrev pub format_byte : List ℕ → ℕ
format_byte bytes = slice_index bytes 104

-- how many bytes each point takes
abbrev pub record_length : List ℕ → ℕ
record_length bytes = u16_at bytes 105

-- the three scales and the three offsets, as they stand
abbrev pub frame : List ℕ → List ℕ
frame bytes = slice_range bytes 131 179

-- the number of points: version 1.4 has a place of its own for it
abbrev pub point_count : List ℕ → ℕ
point_count bytes = if minor bytes == 4 then u64_at bytes 247 else u32_at bytes 107
