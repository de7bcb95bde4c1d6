-- When a text is no numeral.
use Rattle.std.proofs.Common.{◌≡◌, ℕ, ◌^◌, ◌&&◌, Bool, true, false, List, ap, ◌∙◌, sym, refl, nat_lt}
use Rattle.std.specs.Prelude.{ℤ, int_le, Option, Some, None, is_some, if◌then◌else◌, drop}
use Rattle.run_words.specs.Numbers.{natural, has_minus, is_digits, is_numeral}
use Rattle.run_words.proofs.Digits.{ten_digits}

-- where a choice gave something, its test was true
pub chosen : {A : Type 0} (test : Bool) (x y : A) → Some x ≡ (if test then Some y else None) → (test ≡ true) × (x ≡ y)
chosen true x y is = (refl, cc)
chosen false x y is = cc

-- where a choice gave nothing, its test was false
pub not_chosen : {A : Type 0} (test : Bool) (x : A) → None ≡ (if test then Some x else None) → test ≡ false
not_chosen true x is = cc
not_chosen false x is = refl

abbrev pub digits_of : List ℕ → Option ℕ
digits_of text = if is_digits 10 text && nat_lt (natural text) (2 ^ 64) then Some (natural text) else None

pub no_ten_digits : (text : List ℕ) → None ≡ digits_of text → is_digits 10 text ≡ false
no_ten_digits text none = sym (ten_digits text) ∙ not_chosen _ (natural text) none

-- a text is refused where there are no digits behind its minus sign
pub no_numeral_behind : (text rest : List ℕ) (negatives : Bool) → Some rest ≡ (if has_minus text && negatives then Some (drop 1 text) else None) → None ≡ digits_of rest → is_numeral negatives text ≡ false
no_numeral_behind text rest negatives some none =
    let minus = chosen (has_minus text && negatives) rest (drop 1 text) some in
    rw minus.0 (ap (λ t. is_digits 10 t) (sym minus.1) ∙ no_ten_digits rest none)

-- a text without a minus sign is refused where it is no digits
pub no_numeral : (text : List ℕ) (negatives : Bool) → (has_minus text && negatives) ≡ false → None ≡ digits_of text → is_numeral negatives text ≡ false
no_numeral text negatives plain none = rw plain (no_ten_digits text none)

-- a choice gives something where its test is true
pub is_some-choice : {A : Type 0} (r : Option A) (test : Bool) (x : A) → r ≡ (if test then Some x else None) → is_some r ≡ test
is_some-choice r true x is = ap is_some is
is_some-choice r false x is = ap is_some is

-- a numeral is a number where its value is in the range
pub ranged : (test : Bool) (n value low high : ℤ) → test ≡ true → n ≡ value
    → (if int_le low n && int_le n high then Some n else None) ≡ (if (test && int_le low value) && int_le value high then Some value else None)
ranged test n value low high holds is = rw (holds, is) refl
