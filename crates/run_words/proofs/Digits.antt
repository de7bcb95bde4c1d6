-- Texts of digits.
use Rattle.std.proofs.Common.{◌≡◌, ℕ, ◌<◌, ◌≤◌, ◌^◌, ◌&&◌, Bool, true, false, List, [], ◌∷◌, length, nat_le, nat_lt, ◌⊎◌, ap, refl, arith}
use Rattle.std.proofs.lemmas.Bool.Decides.{nat_tests}
use Rattle.std.specs.Prelude.{Some, None, Result, Ok, Err, if◌then◌else◌}
use Rattle.std.specs.Result.{OkIff, result_ok}
use Rattle.std.specs.Char.{is_ascii_digit}
use Rattle.std.specs.List.{list_all}
use Rattle.std.specs.Str.{all_ascii_digits}
use Rattle.std.specs.Str.Parse.{digits_value}
use Rattle.std.proofs.lemmas.Str.Parse.{IsNumeralModel, numerals_by_value, tells_all_ascii_digits, digits_value_short}
use Rattle.run_words.specs.Numbers.{natural, is_digits}

-- each byte of a text is a digit
pub list_all-digits : (text : List ℕ) → list_all is_ascii_digit text ≡ all_ascii_digits text
list_all-digits [] = refl
list_all-digits (byte ∷ rest) = ap (λ b. is_ascii_digit byte && b) (list_all-digits rest)

-- digits have the value that they stand for
pub own : IsNumeralModel (λ digits. all_ascii_digits digits ≡ true) (digits_value 10)
own = numerals_by_value _ tells_all_ascii_digits

within : (length most n bound : ℕ) (digits : Bool) → 0 < length → n < bound → digits ≡ true → length ≤ most
    → Some n ≡ (if (nat_le 1 length && nat_le length most && digits) && nat_lt n bound then Some n else None)
within length most n bound digits some below is few = grind (arith, nat_tests)

beyond : (length most n bound : ℕ) (digits : Bool) → ((0 < length) × (n < bound) → ⊥) → length ≤ most
    → None ≡ (if (nat_le 1 length && nat_le length most && digits) && nat_lt n bound then Some n else None)
beyond length most n bound digits none few = grind (arith, nat_tests)

-- what parsing digits gives
pub parsed_digits : {E : Type 0} (text : List ℕ) (most : ℕ) (r : Result ℕ E) → OkIff r ((0 < length text) × (natural text < 2 ^ 64)) (natural text) → all_ascii_digits text ≡ true → length text ≤ most
    → result_ok r ≡ (if is_digits most text && nat_lt (natural text) (2 ^ 64) then Some (natural text) else None)
parsed_digits text most (Ok n) (h, is) digits few = rw is (within (length text) most (natural text) (2 ^ 64) (all_ascii_digits text) h.0 h.1 digits few)
parsed_digits text most (Err e) h digits few = beyond (length text) most (natural text) (2 ^ 64) (all_ascii_digits text) h few

-- a text that is too long, or has another byte than a digit, is no digits
pub not_digits : (length most n bound : ℕ) (digits : Bool) → (most < length) ⊎ (digits ≡ false)
    → None ≡ (if (nat_le 1 length && nat_le length most && digits) && nat_lt n bound then Some n else None)
not_digits length most n bound digits bad = grind (arith, nat_tests)

below_ten_digits : (text : List ℕ) → all_ascii_digits text ≡ true → length text ≤ 10 → natural text < 2 ^ 64
below_ten_digits text digits few = let small = digits_value_short own text 10 digits few in omega (arith, small)

ten : (length n bound : ℕ) (digits : Bool) → (digits ≡ true → length ≤ 10 → n < bound)
    → ((nat_le 1 length && nat_le length 10 && digits) && nat_lt n bound) ≡ (nat_le 1 length && nat_le length 10 && digits)
ten length n bound digits small = grind (arith, nat_tests)

-- ten digits make a number below 2 ^ 64
pub ten_digits : (text : List ℕ) → (is_digits 10 text && nat_lt (natural text) (2 ^ 64)) ≡ is_digits 10 text
ten_digits text = ten (length text) (natural text) (2 ^ 64) (all_ascii_digits text) (λ digits few. below_ten_digits text digits few)
