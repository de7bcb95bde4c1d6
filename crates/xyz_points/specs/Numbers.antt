-- What a field is worth as a coordinate or a colour.
use Rattle.std.specs.Prelude.{ℕ, ◌+◌, ◌-◌, ◌*◌, ◌^◌, nat_lt, nat_le, ◌==◌, Bool, ◌&&◌, ℤ, pos, neg_ℤ, int_le, int_lt, List, ◌++◌, length, fold, Result, Ok, Err, if◌then◌else◌}
use Rattle.std.specs.List.{list_all, before_first, after_first}
use Rattle.std.specs.Char.{is_ascii_digit}
use Rattle.std.specs.Int.{int_div_euclid}
use Rattle.std.specs.Str.Parse.{starts_with_minus, without_leading_sign}
use Rattle.xyz_points.specs.declared.numbers.FieldFault.{FieldFault}
use Rattle.xyz_points.specs.declared.numbers.FieldFault.TheVariants.{Malformed, OutOfRange}

-- one digit or more, and nothing else
abbrev pub is_numeral : List ℕ → Bool
is_numeral text = nat_lt 0 (length text) && list_all is_ascii_digit text

-- the number that digits write behind those of n
abbrev pub number_after : ℕ → List ℕ → ℕ
number_after n digits = fold (λ n digit. 10 * n + (digit - 48)) n digits

-- the number that digits write
abbrev pub number : List ℕ → ℕ
number digits = number_after 0 digits

-- a decimal point, by its byte
abbrev pub is_point : ℕ → Bool
is_point b = b == 46

-- what stands behind the first point of a text
abbrev pub fraction : List ℕ → List ℕ
fraction text = after_first is_point text

-- a text without its first point
abbrev pub without_point : List ℕ → List ℕ
without_point text = before_first is_point text ++ fraction text

-- an optional sign, then digits with at most one point, and at least one digit
abbrev pub is_decimal : List ℕ → Bool
is_decimal field = is_numeral (without_point (without_leading_sign field))

-- a number, or the one as far below 0
abbrev pub signed_value : Bool → ℕ → ℤ
signed_value minus n = if minus then neg_ℤ (pos n) else pos n

-- a decimal number without its sign, times 10 ^ d, is a quotient: above stand the digits without the point, times 10 ^ d
abbrev pub numerator : ℕ → List ℕ → ℕ
numerator d text = number (without_point text) * 10 ^ d

-- and below the power of ten of the number of digits behind the point
abbrev pub denominator : List ℕ → ℕ
denominator text = 10 ^ length (fraction text)

-- a decimal number times 10 ^ d, rounded down
abbrev pub coordinate_value : ℕ → List ℕ → ℤ
coordinate_value d field =
    let text = without_leading_sign field in
    int_div_euclid (signed_value (starts_with_minus field) (numerator d text)) (pos (denominator text))

-- the range of 32 bits
abbrev pub fits_i32 : ℤ → Bool
fits_i32 z = int_le (neg_ℤ (pos (2 ^ 31))) z && int_lt z (pos (2 ^ 31))

-- a coordinate with d decimals
abbrev pub coordinate : ℕ → List ℕ → Result ℤ FieldFault
coordinate d field =
    if is_decimal field then (if fits_i32 (coordinate_value d field) then Ok (coordinate_value d field) else Err OutOfRange)
    else Err Malformed

-- a colour byte
abbrev pub colour : List ℕ → Result ℕ FieldFault
colour field =
    if is_numeral field then (if nat_le (number field) 255 then Ok (number field) else Err OutOfRange)
    else Err Malformed
