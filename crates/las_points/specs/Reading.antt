-- The points of a file, or why it is not read.
use Rattle.std.specs.Prelude.{◌≡◌, ⊤, ℕ, ◌+◌, ◌*◌, ◌/◌, ◌%◌, List, map, Option, Some, None, Result, Ok, Err}
use Rattle.std.specs.List.{range_with_len}
use Rattle.cube_math.specs.Points.{PointValue}
use Rattle.las_points.specs.Fields.{u16_at, i32_at, points_start, record_length, frame, point_count}
use Rattle.las_points.specs.Tables.{rgb_words}
use Rattle.las_points.specs.Refusals.{first_refusal}
use Rattle.las_points.specs.Clouds.{CloudValue}
use Rattle.las_points.specs.declared.reader.LasFault.{LasFault}
use Rattle.las_points.specs.declared.reader.LasFault.TheVariants.{Memory}
use Rattle.las_points.specs.declared.reader.RgbByte.{RgbByte}
use Rattle.las_points.specs.declared.reader.RgbByte.TheVariants.{High, Low}

-- the byte of a word of 16 bits that is its colour
abbrev pub colour_byte : RgbByte → ℕ → ℕ
colour_byte High word = word / 256
colour_byte Low word = word % 256

-- the colour number of red, green and blue
abbrev pub colour_number : ℕ → ℕ → ℕ → ℕ
colour_number red green blue = 65536 * red + 256 * green + blue

-- the colour number of three words from a place on
abbrev pub words_colour : RgbByte → List ℕ → ℕ → ℕ
words_colour rgb bytes place =
    colour_number (colour_byte rgb (u16_at bytes place)) (colour_byte rgb (u16_at bytes (place + 2))) (colour_byte rgb (u16_at bytes (place + 4)))

-- the colour number of a grey by the high byte of a word
abbrev pub grey : List ℕ → ℕ → ℕ
grey bytes place = let byte = colour_byte High (u16_at bytes place) in colour_number byte byte byte

-- the colour number of the record at a place: of its words of red, green and blue, or the grey of its intensity
abbrev pub record_colour : RgbByte → Option ℕ → List ℕ → ℕ → ℕ
record_colour rgb (Some words) bytes place = words_colour rgb bytes (place + words)
record_colour rgb None bytes place = grey bytes (place + 12)

-- the point of the record at a place
abbrev pub record_point : RgbByte → List ℕ → ℕ → PointValue
record_point rgb bytes place = record {
  x = i32_at bytes place;
  y = i32_at bytes (place + 4);
  z = i32_at bytes (place + 8);
  rgb = record_colour rgb (rgb_words bytes) bytes place;
}

-- the point of a record, by its number from 0
abbrev pub point_at : RgbByte → List ℕ → ℕ → PointValue
point_at rgb bytes i = record_point rgb bytes (points_start bytes + i * record_length bytes)

-- the first n points of a file, each from its place
abbrev pub first_points : RgbByte → List ℕ → ℕ → List PointValue
first_points rgb bytes n = map (point_at rgb bytes) (range_with_len 0 n)

-- what a file holds that nothing refuses: as many points as it says, and its frame
abbrev pub cloud : RgbByte → List ℕ → CloudValue
cloud rgb bytes = record { points = first_points rgb bytes (point_count bytes); frame = frame bytes }

-- a value, unless there is a fault
abbrev pub unless : {X E : Type 0} → Option E → X → Result X E
unless None x = Ok x
unless (Some e) x = Err e

-- the cloud of a file, or its first fault
unfoldable pub las : RgbByte → List ℕ → Result CloudValue LasFault
las rgb bytes = unless (first_refusal bytes) (cloud rgb bytes)

-- what a fault says of the file: want of memory says nothing
abbrev pub IsFault : RgbByte → List ℕ → LasFault → Type 0
IsFault rgb bytes Memory = ⊤
IsFault rgb bytes fault = las rgb bytes ≡ Err fault
