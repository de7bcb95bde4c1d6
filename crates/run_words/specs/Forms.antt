-- The forms of the values of options.
use Rattle.std.specs.Prelude.{ℕ, ℤ, pos, ◌+ℤ◌, ◌-ℤ◌, int_le, Bool, ◌&&◌, ◌||◌, ◌==◌, not, ◌^◌, ◌-◌, length, codes}
use Rattle.std.specs.List.{list_all}
use Rattle.std.specs.Str.{bytes_eq}
use Rattle.run_words.specs.Commands.{Text}
use Rattle.run_words.specs.Numbers.{natural, whole, is_number, is_seed, pieces, piece}
use Rattle.run_words.specs.declared.form.Form.{Form}
use Rattle.run_words.specs.declared.form.Form.TheVariants.{Number, Numbers, CubePlace, HighOrLow, YesOrNo, FileName, Seed, SeedAndCount}

-- a coordinate is a number of 32 bits
abbrev pub is_coordinate : Text → Bool
is_coordinate text = is_number (pos 0 -ℤ pos (2 ^ 31)) (pos (2 ^ 31 - 1)) text

-- so many numbers from low to high, with one comma between two of them
abbrev pub are_numbers : ℕ → ℤ → ℤ → Text → Bool
are_numbers count low high text = length (pieces text) == count && list_all (λ number. is_number low high number) (pieces text)

-- an axis of 2 ^ bits places from o on ends at 2 ^ 31 or before
abbrev pub ends_within : Text → Text → Bool
ends_within o bits = int_le (whole o +ℤ pos (2 ^ natural bits)) (pos (2 ^ 31))

-- the bits of a cube
abbrev pub is_bits : Text → Bool
is_bits text = is_number (pos 7) (pos 31) text

-- x,y,z,bits of a cube that fits the space
abbrev pub is_cube : Text → Bool
is_cube text =
    let x = piece text 0 in let y = piece text 1 in let z = piece text 2 in let bits = piece text 3 in
    length (pieces text) == 4 && is_coordinate x && is_coordinate y && is_coordinate z && is_bits bits
    && ends_within x bits && ends_within y bits && ends_within z bits

-- seed,count with a count from 1 to `most`
abbrev pub is_seed_and_count : ℤ → Text → Bool
is_seed_and_count most text = length (pieces text) == 2 && is_seed (piece text 0) && is_number (pos 1) most (piece text 1)

-- whether a text is a value of the form
abbrev pub fits : Form → Text → Bool
fits (Number low high) text = is_number low high text
fits (Numbers count low high) text = are_numbers count low high text
fits CubePlace text = is_cube text
fits HighOrLow text = bytes_eq text (codes "high") || bytes_eq text (codes "low")
fits YesOrNo text = bytes_eq text (codes "yes") || bytes_eq text (codes "no")
fits FileName text = not (length text == 0)
fits Seed text = is_seed text
fits (SeedAndCount most) text = is_seed_and_count most text
