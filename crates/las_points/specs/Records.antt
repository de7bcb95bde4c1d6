-- Where in a record the bytes of its colour stand.
use Rattle.std.specs.Prelude.{ℕ, ◌+◌, ◌*◌, Option, Some, None}
use Rattle.las_points.specs.declared.reader.RgbByte.{RgbByte}
use Rattle.las_points.specs.declared.reader.RgbByte.TheVariants.{High, Low}

-- the place of the byte of red, green or blue, which are 0, 1 and 2
abbrev pub colour_place : RgbByte → Option ℕ → ℕ → ℕ
colour_place High (Some words) colour = words + 2 * colour + 1
colour_place Low (Some words) colour = words + 2 * colour
colour_place rgb None colour = 13
