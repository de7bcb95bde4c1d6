-- The ranges of numbers without a sign.
use Rattle.std.proofs.Common.{◌≡◌, ℕ, ◌≤◌, ◌&&◌, ◌==◌, Bool, true, false, List, [], ◌∷◌, length, nat_le, ap, ◌∙◌, sym, refl, arith}
use Rattle.std.specs.Prelude.{pos, int_le, int_lt, Option, Some, None, if◌then◌else◌, drop}
use Rattle.std.specs.Option.{option_map_or}
use Rattle.std.specs.Char.{is_ascii_digit}
use Rattle.std.specs.Str.{all_ascii_digits}
use Rattle.std.proofs.lemmas.Int.{ints}
use Rattle.std.proofs.lemmas.Bool.Decides.{nat_tests}
use Rattle.run_words.specs.Commands.{Text}
use Rattle.run_words.specs.Numbers.{natural, whole, has_minus, is_digits, is_numeral, is_number}
use Rattle.clap_words.specs.Words.{value_of}
use Rattle.run_words.specs.Screens.{has_form}
use Rattle.run_words.specs.Values.{number_or}
use Rattle.run_words.specs.declared.form.Form.TheVariants.{Number}
use Rattle.run_words.proofs.Lists.{both}

digit_is_no_minus : (byte : ℕ) → is_ascii_digit byte ≡ true → (byte == 45) ≡ false
digit_is_no_minus byte digit = grind (arith, nat_tests)

-- digits have no minus sign in front
no_minus : (text : Text) → all_ascii_digits text ≡ true → has_minus text ≡ false
no_minus [] digits = refl
no_minus (byte ∷ rest) digits = digit_is_no_minus byte (both _ _ digits).0

digits_of : (text : Text) (minus : Bool) → is_digits 10 (if minus && false then drop 1 text else text) ≡ true → is_digits 10 text ≡ true
digits_of text true is = is
digits_of text false is = is

-- a numeral without a sign stands for the number of its digits
pub plain_whole : (text : Text) → is_numeral false text ≡ true → whole text ≡ pos (natural text)
plain_whole text is =
    let digits = digits_of text (has_minus text) is in
    rw (no_minus text (both (nat_le 1 (length text) && nat_le (length text) 10) (all_ascii_digits text) digits).1) refl

not_negative : (low : ℕ) → int_lt (pos low) (pos 0) ≡ false
not_negative low = grind (arith, ints)

from_below : (low n : ℕ) → int_le (pos low) (pos n) ≡ true → low ≤ n
from_below low n test = grind (arith, ints)

-- a number of a range without negative numbers lies in it
pub natural_within : (low high : ℕ) (text : Text) → is_number (pos low) (pos high) text ≡ true → (low ≤ natural text) × (natural text ≤ high)
natural_within low high text is =
    let signed = int_lt (pos low) (pos 0) in
    let above = both (is_numeral signed text && int_le (pos low) (whole text)) (int_le (whole text) (pos high)) is in
    let numeral = both (is_numeral signed text) (int_le (pos low) (whole text)) above.0 in
    let plain = plain_whole text (ap (λ s. is_numeral s text) (sym (not_negative low)) ∙ numeral.0) in
    (from_below low (natural text) (rw plain at numeral.1), from_below (natural text) high (rw plain at above.1))

within_or : (low high default : ℕ) (o : Option Text) → low ≤ default → default ≤ high → option_map_or (λ text. is_number (pos low) (pos high) text) o true ≡ true
    → (low ≤ option_map_or natural o default) × (option_map_or natural o default ≤ high)
within_or low high default None above below fit = (above, below)
within_or low high default (Some text) above below fit = natural_within low high text fit

-- an option's number, or its default, lies in the option's range
pub number_within : (low high default : ℕ) (name : Text) (words : List Text) → low ≤ default → default ≤ high → has_form (Number (pos low) (pos high)) name words ≡ true
    → (low ≤ number_or default name words) × (number_or default name words ≤ high)
number_within low high default name words = within_or low high default (value_of name words)
