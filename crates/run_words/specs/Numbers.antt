-- Numbers as they stand in the values of options.
use Rattle.std.specs.Prelude.{ℕ, ℤ, pos, ◌-ℤ◌, int_le, int_lt, List, Bool, ◌&&◌, ◌==◌, nat_le, nat_lt, ◌^◌, if◌then◌else◌, length, drop, slice_index, slice_index_or, []}
use Rattle.std.specs.List.{slice_split}
use Rattle.std.specs.Str.{all_ascii_digits}
use Rattle.std.specs.Str.Parse.{digits_value}
use Rattle.run_words.specs.Commands.{Text}

-- the number that decimal digits stand for
abbrev pub natural : Text → ℕ
natural digits = digits_value 10 digits

-- at least one digit, and not more than `most`
abbrev pub is_digits : ℕ → Text → Bool
is_digits most text = nat_le 1 (length text) && nat_le (length text) most && all_ascii_digits text

-- `-` stands in front
abbrev pub has_minus : Text → Bool
has_minus text = slice_index text 0 == 45

-- the number that digits stand for, with or without a `-` in front
abbrev pub whole : Text → ℤ
whole text = if has_minus text then pos 0 -ℤ pos (natural (drop 1 text)) else pos (natural text)

-- one to ten digits, after a `-` only where negative numbers are meant
abbrev pub is_numeral : Bool → Text → Bool
is_numeral negatives text = is_digits 10 (if has_minus text && negatives then drop 1 text else text)

-- a number from low to high, with a `-` only where the range has negative numbers
abbrev pub is_number : ℤ → ℤ → Text → Bool
is_number low high text = is_numeral (int_lt low (pos 0)) text && int_le low (whole text) && int_le (whole text) high

-- a seed: one to twenty digits, below 2 ^ 64
abbrev pub is_seed : Text → Bool
is_seed text = is_digits 20 text && nat_lt (natural text) (2 ^ 64)

-- the texts between commas
abbrev pub pieces : Text → List Text
pieces text = slice_split (λ byte. byte == 44) text

-- the text at a place, from 0, between commas
abbrev pub piece : Text → ℕ → Text
piece text place = slice_index_or (pieces text) place []
