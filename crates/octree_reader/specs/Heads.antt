-- What stands at the beginning of a file. Numbers are little endian.
use Rattle.std.specs.Prelude.{ℕ, ℤ, ◌≡◌, ◌≤◌, List, length, take, slice_index}
use Rattle.std.specs.Int.{w32, cast_signed}
use Rattle.byteorder.specs.Endian.{little_from}
use Rattle.cube_math.specs.Cubes.{CubeValue, FitsSpace}
use Rattle.octree_file.specs.Files.{IsLimit, signature}

-- the number in the four bytes from a place on
abbrev pub u32_at : List ℕ → ℕ → ℕ
u32_at bytes place = little_from place 4 bytes

-- the number in the four bytes from a place on, in two's complement
abbrev pub i32_at : List ℕ → ℕ → ℤ
i32_at bytes place = cast_signed w32 (u32_at bytes place)

-- the cube that a head names: its origin, and its bits
abbrev pub head_cube : List ℕ → CubeValue
head_cube bytes = record { ox = i32_at bytes 5; oy = i32_at bytes 9; oz = i32_at bytes 13; bits = slice_index bytes 17 }

-- the leaf limit that a head names
abbrev pub head_leaf : List ℕ → ℕ
head_leaf bytes = u32_at bytes 18

-- the bytes begin as each file does
abbrev pub HasSignature : List ℕ → Type 0
HasSignature bytes = take 5 bytes ≡ signature

-- the bytes begin with a head: 22 bytes, with a cube that fits the space and a leaf limit
pub record HasHead (bytes : List ℕ) : Type 0 where
  pub signature : HasSignature bytes
  pub long : 22 ≤ length bytes
  pub fits : FitsSpace (i32_at bytes 5) (i32_at bytes 9) (i32_at bytes 13) (slice_index bytes 17)
  pub limit : IsLimit (head_leaf bytes)
