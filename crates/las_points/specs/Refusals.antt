-- Why a file is not read.
use Rattle.std.specs.Prelude.{ℕ, ◌+◌, ◌*◌, ◌==◌, nat_lt, nat_le, Bool, not, List, [], ◌∷◌, length, codes, find, Option, is_none}
use Rattle.std.specs.List.{list_any, zip}
use Rattle.std.specs.Option.{option_map, option_map_or}
use Rattle.las_points.specs.Fields.{major, minor, points_start, format_byte, record_length, point_count}
use Rattle.las_points.specs.Formats.{version_of, format_of}
use Rattle.las_points.specs.declared.reader.LasFault.{LasFault}
use Rattle.las_points.specs.declared.reader.LasFault.TheVariants.{NotLas, HeaderShort, Version, Compressed, Format, Length, Start, PointsShort}

-- whether a byte of the signature is there and is another one
abbrev pub has_other_signature : List ℕ → Bool
has_other_signature bytes = list_any (λ pair. not (pair.0 == pair.1)) (zip bytes (codes "LASF"))

-- the length of the header, where the version is one that is read
abbrev pub header_length : List ℕ → ℕ
header_length bytes = option_map_or (λ v. v.header) (version_of (major bytes) (minor bytes)) 0

-- the least length of a record, where the point format is one that is read
abbrev pub least_length : List ℕ → ℕ
least_length bytes = option_map_or (λ f. f.least) (format_of (format_byte bytes)) 0

-- how many bytes the points reach to
abbrev pub bytes_needed : List ℕ → ℕ
bytes_needed bytes = points_start bytes + point_count bytes * record_length bytes

-- the conditions of refusal with their faults, in the order in which they are tested
abbrev pub refusals : List ℕ → List (Bool × LasFault)
refusals bytes =
    (has_other_signature bytes, NotLas)
    ∷ (nat_lt (length bytes) 227, HeaderShort (length bytes))
    ∷ (is_none (version_of (major bytes) (minor bytes)), Version (major bytes) (minor bytes))
    ∷ (nat_lt (length bytes) (header_length bytes), HeaderShort (length bytes))
    ∷ (nat_le 128 (format_byte bytes), Compressed (format_byte bytes))
    ∷ (is_none (format_of (format_byte bytes)), Format (format_byte bytes))
    ∷ (nat_lt (record_length bytes) (least_length bytes), Length (record_length bytes) (least_length bytes))
    ∷ (nat_lt (points_start bytes) (header_length bytes), Start (points_start bytes) (header_length bytes))
    ∷ (nat_lt (length bytes) (bytes_needed bytes), PointsShort (length bytes) (bytes_needed bytes))
    ∷ []

-- the fault of the first condition that holds
abbrev pub first_holding : List (Bool × LasFault) → Option LasFault
first_holding rows = option_map (λ row. row.1) (find (λ row. row.0) rows)

-- the fault of a file, where it has one
abbrev pub first_refusal : List ℕ → Option LasFault
first_refusal bytes = first_holding (refusals bytes)
