-- Texts of digits, and texts that are none.
use Rattle.std.proofs.Common.{◌≡◌, ℕ, suc, ◌+◌, ◌-◌, ◌*◌, ◌^◌, ◌<◌, ◌≤◌, nat_le, ◌&&◌, Bool, true, false, List, length, get_or, take, ap, ◌∙◌, refl, arith}
use Rattle.std.proofs.lemmas.Bool.Decides.{nat_tests}
use Rattle.std.specs.Char.{is_ascii_digit, digit_value}
use Rattle.std.specs.List.{list_all}
use Rattle.std.specs.Str.Parse.{digits_value}
use Rattle.std.proofs.Math.Nat.{pow-suc, pow-le-pow_right}
use Rattle.std.proofs.lemmas.List.Folds.{list_all_at, list_all_more}
use Rattle.std.proofs.lemmas.Int.Digits.{digits_value_more}
use Rattle.sim_script.specs.Turns.{is_numeral}

-- a byte that passes the test of digits is worth what lies between it and 0
pub digit : (d : ℕ) → is_ascii_digit d ≡ true → (digit_value d ≡ d - 48) × (d - 48 ≤ 9)
digit d h = grind (arith, nat_tests)

-- a text with another byte is no numeral
pub other_byte : (most : ℕ) (text : List ℕ) (i : ℕ) → i < length text → is_ascii_digit (get_or text i 0) ≡ false → is_numeral most text ≡ false
other_byte most text i within other =
    let none : list_all is_ascii_digit text ≡ false = list_all_at is_ascii_digit text i 0 within other in
    rw none (and_no (nat_le 1 (length text) && nat_le (length text) most)) where
      and_no : (b : Bool) → (b && false) ≡ false
      and_no true = refl
      and_no false = refl

-- up to eight digits make a number below this power of ten
pub eight_digits : (i value : ℕ) → i ≤ 8 → value < 10 ^ i → value < 100000000
eight_digits i value few below = let most : 10 ^ i ≤ 10 ^ 8 = pow-le-pow_right (omega arith) few in omega arith

-- what is known of the first i bytes of a text, which make this number
pub record AreDigits (text : List ℕ) (i n : ℕ) : Type 0 where
  pub digits : list_all is_ascii_digit (take i text) ≡ true
  pub value : n ≡ digits_value 10 (take i text)
  pub below : n < 10 ^ i

-- one digit more
pub digit_more : (text : List ℕ) (i n d : ℕ) → AreDigits text i n → i < length text → is_ascii_digit (get_or text i 0) ≡ true → d ≡ get_or text i 0 - 48
    → AreDigits text (i + 1) (10 * n + d)
digit_more text i n d are within passes is =
    let one = digit (get_or text i 0) passes in
    let more : digits_value 10 (take (i + 1) text) ≡ digits_value 10 (take i text) * 10 + digit_value (get_or text i 0) = digits_value_more 10 text i within in
    let power : 10 ^ (i + 1) ≡ 10 * 10 ^ i = next i in
    let v = are.value in
    let b = are.below in
    record {
      digits = list_all_more is_ascii_digit text i 0 within ∙ rw (are.digits, passes) refl;
      value = omega (arith, one.0);
      below = rw power (omega (arith, one.1));
    } where
      next : (k : ℕ) → 10 ^ (k + 1) ≡ 10 * 10 ^ k
      next k = let e = pow-suc 10 k in let s : k + 1 ≡ suc k = omega arith in ap (λ m. 10 ^ m) s ∙ (e ∙ omega arith)
