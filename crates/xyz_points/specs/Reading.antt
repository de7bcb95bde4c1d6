-- The points of a text, or its first fault.
use Rattle.std.specs.Prelude.{◌≡◌, ⊤, ℕ, ◌+◌, ◌*◌, List, [], ◌∷◌, length, filter_map, Option, Some, None, Result, Ok, Err, if◌then◌else◌}
use Rattle.std.specs.List.{enumerate_from}
use Rattle.cube_math.specs.Points.{PointValue}
use Rattle.xyz_points.specs.declared.numbers.FieldFault.{FieldFault}
use Rattle.xyz_points.specs.declared.numbers.FieldFault.TheVariants.{Malformed, OutOfRange}
use Rattle.xyz_points.specs.declared.reader.XyzFault.{XyzFault}
use Rattle.xyz_points.specs.declared.reader.XyzFault.TheVariants.{Fields, Number, Range, Memory}
use Rattle.xyz_points.specs.Lines.{lines_of, fields_of, is_skipped}
use Rattle.xyz_points.specs.Numbers.{coordinate, colour, is_decimal}

-- what follows of a value, unless there is an error
abbrev pub and_then : {X Y E : Type 0} → Result X E → (X → Result Y E) → Result Y E
and_then (Ok x) f = f x
and_then (Err e) f = Err e

-- the fault of a field, told by the line and the place of the field in it
abbrev pub fault_at : ℕ → ℕ → FieldFault → XyzFault
fault_at line field Malformed = Number line field
fault_at line field OutOfRange = Range line field

-- the value of a field, or its fault at its place
abbrev pub result_at : {X : Type 0} → ℕ → ℕ → Result X FieldFault → Result X XyzFault
result_at line field (Ok x) = Ok x
result_at line field (Err e) = Err (fault_at line field e)

-- the colour number of white
abbrev pub white_rgb : ℕ
white_rgb = 65536 * 255 + 256 * 255 + 255

-- the white point of the first three fields
abbrev pub white_point : ℕ → ℕ → List ℕ → List ℕ → List ℕ → Result PointValue XyzFault
white_point d line x y z =
    and_then (result_at line 1 (coordinate d x)) (λ x.
    and_then (result_at line 2 (coordinate d y)) (λ y.
    and_then (result_at line 3 (coordinate d z)) (λ z.
    Ok (record { x = x; y = y; z = z; rgb = white_rgb }))))

-- the point, where the fourth field is an intensity
abbrev pub with_intensity : ℕ → List ℕ → PointValue → Result PointValue XyzFault
with_intensity line i p = if is_decimal i then Ok p else Err (Number line 4)

-- the point in the colour of three fields, of which this is the place of the first
abbrev pub with_colour : ℕ → ℕ → List ℕ → List ℕ → List ℕ → PointValue → Result PointValue XyzFault
with_colour line field r g b p =
    and_then (result_at line field (colour r)) (λ r.
    and_then (result_at line (field + 1) (colour g)) (λ g.
    and_then (result_at line (field + 2) (colour b)) (λ b.
    Ok (record p { rgb = 65536 * r + 256 * g + b }))))

-- the point of a line of fields
abbrev pub line_point : ℕ → ℕ → List (List ℕ) → Result PointValue XyzFault
line_point d line (x ∷ y ∷ z ∷ []) = white_point d line x y z
line_point d line (x ∷ y ∷ z ∷ i ∷ []) = and_then (white_point d line x y z) (with_intensity line i)
line_point d line (x ∷ y ∷ z ∷ r ∷ g ∷ b ∷ []) = and_then (white_point d line x y z) (with_colour line 4 r g b)
line_point d line (x ∷ y ∷ z ∷ i ∷ r ∷ g ∷ b ∷ []) =
    and_then (and_then (white_point d line x y z) (with_intensity line i)) (with_colour line 5 r g b)
line_point d line fields = Err (Fields line (length fields))

-- what the text of a line with its number says: nothing where the line is skipped
abbrev pub line_reading : ℕ → ℕ → List ℕ → Option (Result PointValue XyzFault)
line_reading d line text = if is_skipped (fields_of text) then None else Some (line_point d line (fields_of text))

-- the values of a list of results, or the first error among them
abbrev pub all_or_first_error : {X E : Type 0} → List (Result X E) → Result (List X) E
all_or_first_error [] = Ok []
all_or_first_error (Ok x ∷ more) = and_then (all_or_first_error more) (λ xs. Ok (x ∷ xs))
all_or_first_error (Err e ∷ more) = Err e

-- the points of a text with d decimals, or its first fault
unfoldable pub xyz : ℕ → List ℕ → Result (List PointValue) XyzFault
xyz d bytes = all_or_first_error (filter_map (λ l. line_reading d l.0 l.1) (enumerate_from 1 (lines_of bytes)))

-- what a fault says of the text: want of memory says nothing
abbrev pub IsFault : ℕ → List ℕ → XyzFault → Type 0
IsFault d bytes Memory = ⊤
IsFault d bytes fault = xyz d bytes ≡ Err fault
