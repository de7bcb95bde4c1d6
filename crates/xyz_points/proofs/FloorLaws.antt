-- Rounding a number below 0 down.
use Rattle.std.proofs.Common.{◌≡◌, ℕ, zero, suc, ◌+◌, ◌-◌, ◌*◌, ◌/◌, ◌%◌, ◌^◌, ◌<◌, ◌≤◌, min, ◌==◌, not, cond, Bool, true, false, ℤ, pos, neg_ℤ, List, length, Ok, Err, ap, ◌∙◌, sym, refl, arith, inl, inr, if◌then◌else◌, FitsSigned}
use Rattle.std.specs.Int.{from_bool, int_div_euclid, w32}
use Rattle.std.specs.Str.Parse.{starts_with_minus, without_leading_sign}
use Rattle.std.proofs.lemmas.Bool.{cases_eq, ne_eqb, le-leb, lt-leb}
use Rattle.std.proofs.Math.Nat.{zero-div, zero-mod}
use Rattle.std.proofs.lemmas.Nat.{div-add-mod', div-mul-add, mod_below}
use Rattle.xyz_points.specs.declared.numbers.FieldFault.TheVariants.{Malformed, OutOfRange}
use Rattle.xyz_points.specs.Numbers.{coordinate, fits_i32, fraction, is_decimal, is_numeral, coordinate_value, denominator, numerator, signed_value, without_point}
use Rattle.xyz_points.proofs.NumberLaws.{ten_pow_pos}

-- the quotient of one more
suc_over : (a m : ℕ) → 0 < m → suc a / m + cond (suc a % m == 0) 0 1 ≡ suc (a / m)
suc_over a m p =
    let whole : suc a / m * m + suc a % m ≡ suc a = div-add-mod' (suc a) m in
    let below : suc a % m < m = mod_below (suc a) m p in
    elim (cases_eq (suc a % m) 0) [
      | inl z ↦
          let q : ℕ = suc a / m - 1 in
          let some : suc a / m ≡ suc q = elim (cases_eq (suc a / m) 0) [
            | inl n ↦ let e : 0 * m + 0 ≡ suc a = rw (n, z) at whole in absurd (omega arith)
            | inr n ↦ omega arith
          ] in
          let e : suc q * m + 0 ≡ suc a = rw (some, z) at whole in
          let f : a ≡ q * m + (m - 1) = omega arith in
          let g : a / m ≡ q = ap (λ k. k / m) f ∙ div-mul-add q m (m - 1) (omega arith) in
          rw (z, some, g) (omega arith)
      | inr n ↦
          let f : a ≡ suc a / m * m + (suc a % m - 1) = omega arith in
          let g : a / m ≡ suc a / m = ap (λ k. k / m) f ∙ div-mul-add (suc a / m) m (suc a % m - 1) (omega arith) in
          rw (ne_eqb (suc a % m) 0 n) (omega (arith, g))
    ]

-- a number below 0 is rounded away from 0
floor_minus : (n m : ℕ) → 0 < m → int_div_euclid (neg_ℤ (pos n)) (pos m) ≡ neg_ℤ (pos (n / m + cond (n % m == 0) 0 1))
floor_minus zero m p = rw (zero-div m, zero-mod m) refl
floor_minus (suc a) m p = ap (λ k. neg_ℤ (pos k)) (sym (suc_over a m p))

-- down to the least number of 32 bits
fits_below : (k : ℕ) → k ≤ 2 ^ 31 → fits_i32 (neg_ℤ (pos k)) ≡ true
fits_below zero h = refl
fits_below (suc k) h = rw (le-leb k (2 ^ 31 - 1) (omega arith)) refl

-- and no further
not_below : (k : ℕ) → 2 ^ 31 < k → fits_i32 (neg_ℤ (pos k)) ≡ false
not_below zero h = absurd (omega arith)
not_below (suc k) h = rw (lt-leb k (2 ^ 31 - 1) (omega arith)) refl

-- what is known of a field with a minus: its text behind the sign, and its magnitude rounded down, up to a limit, and then away from 0
pub record BelowZero (d : ℕ) (field text : List ℕ) (floor away : ℕ) : Type 0 where
  pub behind : text ≡ without_leading_sign field
  pub minus : starts_with_minus field ≡ true
  pub decimal : is_numeral (without_point text) ≡ true
  pub floored : floor ≡ min (numerator d text / denominator text) (2 ^ 32)
  pub rounded : away ≡ floor + cond (numerator d text % denominator text == 0) 0 1

-- its value, without a limit
value_below : (d : ℕ) (field text : List ℕ) (floor away : ℕ) → BelowZero d field text floor away → (k : ℕ)
    → k ≡ numerator d text / denominator text + cond (numerator d text % denominator text == 0) 0 1
    → coordinate_value d field ≡ neg_ℤ (pos k)
value_below d field text floor away b k is =
    let n : ℕ = numerator d text in
    let m : ℕ = denominator text in
    let e : coordinate_value d field ≡ int_div_euclid (neg_ℤ (pos n)) (pos m) =
    λ i. int_div_euclid (signed_value (b.minus i) (numerator d (sym b.behind i))) (pos (denominator (sym b.behind i))) in
    e ∙ floor_minus n m (ten_pow_pos (length (fraction text))) ∙ ap (λ j. neg_ℤ (pos j)) (sym is)

-- such a field is a decimal number
is_decimal_below : (d : ℕ) (field text : List ℕ) (floor away : ℕ) → BelowZero d field text floor away → is_decimal field ≡ true
is_decimal_below d field text floor away b = ap (λ t. is_numeral (without_point t)) (sym b.behind) ∙ b.decimal

-- a coordinate of a decimal number
by_value : (d : ℕ) (field : List ℕ) (z : ℤ) → is_decimal field ≡ true → coordinate_value d field ≡ z → coordinate d field ≡ (if fits_i32 z then Ok z else Err OutOfRange)
by_value d field z decimal value = λ i. if decimal i then (if fits_i32 (value i) then Ok (value i) else Err OutOfRange) else Err Malformed

-- the limit is above what is in range
pub in_range_below : (d : ℕ) (field text : List ℕ) (floor away : ℕ) → BelowZero d field text floor away → away ≤ 2 ^ 31 → coordinate d field ≡ Ok (neg_ℤ (pos away))
in_range_below d field text floor away b small =
    by_value d field (neg_ℤ (pos away)) (is_decimal_below d field text floor away b) (value_below d field text floor away b away (omega (arith, b.floored, b.rounded)))
    ∙ ap (λ r. if r then Ok (neg_ℤ (pos away)) else Err OutOfRange) (fits_below away small)

-- and what is below the least coordinate is out of range
pub out_of_range_below : (d : ℕ) (field text : List ℕ) (floor away : ℕ) → BelowZero d field text floor away → 2 ^ 31 < away → coordinate d field ≡ Err OutOfRange
out_of_range_below d field text floor away b large =
    let k : ℕ = numerator d text / denominator text + cond (numerator d text % denominator text == 0) 0 1 in
    by_value d field (neg_ℤ (pos k)) (is_decimal_below d field text floor away b) (value_below d field text floor away b k refl)
    ∙ ap (λ r. if r then Ok (neg_ℤ (pos k)) else Err OutOfRange) (not_below k (omega (arith, b.floored, b.rounded)))

-- one away, as the code counts it
pub one_away : (b : Bool) → from_bool (not b) ≡ cond b 0 1
one_away true = refl
one_away false = refl

-- a number that is not below the least one fits 32 bits
pub negative_fits : (k : ℕ) → k ≤ 2 ^ 31 → FitsSigned w32 (neg_ℤ (pos k))
negative_fits zero h = record { sfits = omega arith }
negative_fits (suc k) h = record { sfits = omega arith }
