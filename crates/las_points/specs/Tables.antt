-- Where the points stand in a file.
use Rattle.std.specs.Prelude.{◌≡◌, ◌≤◌, ℕ, ◌+◌, ◌*◌, List, length, Option}
use Rattle.std.specs.Option.{option_and_then}
use Rattle.las_points.specs.Fields.{points_start, format_byte, record_length, point_count}
use Rattle.las_points.specs.Formats.{format_of, colour_end}
use Rattle.las_points.specs.declared.header.PointTable.{PointTable}

-- where in a record of the file the words of red, green and blue begin, where it has them
abbrev pub rgb_words : List ℕ → Option ℕ
rgb_words bytes = option_and_then (λ f. f.rgb) (format_of (format_byte bytes))

-- the table of a file that holds all its points
pub record IsTable (bytes : List ℕ) (table : PointTable) : Type 0 where
  pub start : table.start ≡ points_start bytes
  pub length_is : table.length ≡ record_length bytes
  pub count : table.count ≡ point_count bytes
  pub rgb : table.rgb ≡ rgb_words bytes
  pub behind_frame : 227 ≤ table.start
  pub held : table.start + table.count * table.length ≤ length bytes
  pub coordinates : 20 ≤ table.length
  pub colour : colour_end table.rgb ≤ table.length
