-- A decimal number times a power of ten: what the digits behind the last place that counts leave.
use Rattle.std.proofs.Common.{◌≡◌, ℕ, ◌+◌, ◌-◌, ◌*◌, ◌/◌, ◌%◌, ◌^◌, ◌<◌, ◌≤◌, min, ◌==◌, ◌⊎◌, true, List, ◌++◌, length, take, drop, append_assoc, ap, ◌∙◌, sym, refl, arith, inl, inr}
use Rattle.std.specs.Char.{is_ascii_digit}
use Rattle.std.specs.List.{list_all}
use Rattle.std.proofs.Math.Nat.{mul-div_cancel, div-div-eq-div-mul, mul-le-mul_left, mul-le-mul_right, mul-pos}
use Rattle.std.proofs.lemmas.Bool.{cases_eq, cases_lt, ne_eqb}
use Rattle.std.proofs.lemmas.Nat.{div-add-mod', div-mul-add, pow-add}
use Rattle.std.proofs.lemmas.List.{length-drop, take-append-drop}
use Rattle.xyz_points.specs.Numbers.{number}
use Rattle.xyz_points.proofs.NumberLaws.{number-append, number_shift, number-lt, ten_pow_pos, zeros_write_zero}

-- a number and its last places, moved up by the places that are kept and those that are filled up, of which there are none where places are dropped
floor_parts : (a b E P K : ℕ) → (P ≡ 1) ⊎ (E ≡ 1) → 0 < E → 0 < K → b < E → (a * E + b) * (K * P) / (K * E) ≡ a * P
floor_parts a b E P K or e k l =
    let moved : (a * E + b) * (K * P) ≡ (a * E + b) * P * K = omega arith in
    let cut : (a * E + b) * P * K / K ≡ (a * E + b) * P = mul-div_cancel ((a * E + b) * P) k in
    let inner : (a * E + b) * P / E ≡ a * P = elim or [
      | inl p ↦ rw p (let f : (a * E + b) / E ≡ a = div-mul-add a E b l in let g : (a * E + b) * 1 ≡ a * E + b = omega arith in rw g (f ∙ omega arith))
      | inr q ↦
          let none : b ≡ 0 = omega arith in
          let f : (a * P * E) / E ≡ a * P = mul-div_cancel (a * P) e in
          let g : (a * E + b) * P ≡ a * P * E = rw none (omega arith) in
          rw g f
    ] in
    rw (moved, ← div-div-eq-div-mul, cut) inner

-- what division leaves then
rest_parts : (a b E P K : ℕ) → (P ≡ 1) ⊎ (E ≡ 1) → 0 < E → 0 < P → 0 < K → b < E → ((a * E + b) * (K * P) % (K * E) == 0) ≡ (b == 0)
rest_parts a b E P K or e p k l =
    let floor : (a * E + b) * (K * P) / (K * E) ≡ a * P = floor_parts a b E P K or e k l in
    let whole : (a * E + b) * (K * P) / (K * E) * (K * E) + (a * E + b) * (K * P) % (K * E) ≡ (a * E + b) * (K * P) = div-add-mod' ((a * E + b) * (K * P)) (K * E) in
    let rest : a * P * (K * E) + (a * E + b) * (K * P) % (K * E) ≡ (a * E + b) * (K * P) = rw floor at whole in
    let r : (a * E + b) * (K * P) % (K * E) ≡ b * (K * P) = omega (arith, rest) in
    rw r (elim (cases_eq b 0) [
      | inl z ↦ let none : 0 * (K * P) ≡ 0 = omega arith in rw (z, none) refl
      | inr ne ↦
          let q : 0 < K * P = mul-pos k p in
          let some : 0 < b * (K * P) = mul-pos (omega arith) q in
          rw (ne_eqb b 0 ne, ne_eqb (b * (K * P)) 0 (λ z. absurd (omega arith))) refl
    ])

-- how a fraction is cut at the places that are kept
abbrev pub IsKept : List ℕ → ℕ → ℕ → Type 0
IsKept fraction d kept = kept ≡ min (length fraction) d

-- the value of digits that are cut there
cut_value : (whole fraction : List ℕ) (kept : ℕ) → number (whole ++ fraction) ≡ number (whole ++ take kept fraction) * 10 ^ length (drop kept fraction) + number (drop kept fraction)
cut_value whole fraction kept =
    ap (λ f. number (whole ++ f)) (sym (take-append-drop kept fraction))
    ∙ ap number (sym (append_assoc whole (take kept fraction) (drop kept fraction)))
    ∙ number-append 0 (whole ++ take kept fraction) (drop kept fraction)
    ∙ number_shift (number (whole ++ take kept fraction)) (drop kept fraction)

-- the places that are filled up, and those that are dropped
record Places (fraction : List ℕ) (d kept : ℕ) : Type 0 where
  filled : 10 ^ d ≡ 10 ^ kept * 10 ^ (d - kept)
  dropped : 10 ^ length fraction ≡ 10 ^ kept * 10 ^ length (drop kept fraction)
  one : (10 ^ (d - kept) ≡ 1) ⊎ (10 ^ length (drop kept fraction) ≡ 1)

-- how the powers of ten go together there
places : (fraction : List ℕ) (d kept : ℕ) → IsKept fraction d kept → Places fraction d kept
places fraction d kept is =
    let n : length (drop kept fraction) ≡ length fraction - kept = length-drop kept fraction in
    let f : d ≡ kept + (d - kept) = omega arith in
    let g : length fraction ≡ kept + length (drop kept fraction) = omega arith in
    record {
      filled = ap (λ k. 10 ^ k) f ∙ pow-add 10 kept (d - kept);
      dropped = ap (λ k. 10 ^ k) g ∙ pow-add 10 kept (length (drop kept fraction));
      one = elim (cases_lt d (length fraction)) [
        | inl l ↦ let z : d - kept ≡ 0 = omega arith in inl (ap (λ k. 10 ^ k) z)
        | inr l ↦ let z : length (drop kept fraction) ≡ 0 = omega arith in inr (ap (λ k. 10 ^ k) z)
      ];
    }

-- the floor of the number of whole and fraction, times 10 ^ d
pub floor_of : (whole fraction : List ℕ) (d kept : ℕ) → IsKept fraction d kept → list_all is_ascii_digit (drop kept fraction) ≡ true
    → number (whole ++ fraction) * 10 ^ d / 10 ^ length fraction ≡ number (whole ++ take kept fraction) * 10 ^ (d - kept)
floor_of whole fraction d kept is digits =
    let p : Places fraction d kept = places fraction d kept is in
    rw (cut_value whole fraction kept, p.filled, p.dropped)
    (floor_parts (number (whole ++ take kept fraction)) (number (drop kept fraction)) (10 ^ length (drop kept fraction)) (10 ^ (d - kept)) (10 ^ kept)
    p.one (ten_pow_pos (length (drop kept fraction))) (ten_pow_pos kept) (number-lt (drop kept fraction) digits))

-- it is exact where the digits that are dropped are zeros
pub exact_of : (whole fraction : List ℕ) (d kept : ℕ) → IsKept fraction d kept → list_all is_ascii_digit (drop kept fraction) ≡ true
    → (number (whole ++ fraction) * 10 ^ d % 10 ^ length fraction == 0) ≡ list_all (λ b. b == 48) (drop kept fraction)
exact_of whole fraction d kept is digits =
    let p : Places fraction d kept = places fraction d kept is in
    rw (cut_value whole fraction kept, p.filled, p.dropped)
    (rest_parts (number (whole ++ take kept fraction)) (number (drop kept fraction)) (10 ^ length (drop kept fraction)) (10 ^ (d - kept)) (10 ^ kept)
    p.one (ten_pow_pos (length (drop kept fraction))) (ten_pow_pos (d - kept)) (ten_pow_pos kept) (number-lt (drop kept fraction) digits)
    ∙ sym (zeros_write_zero (drop kept fraction) digits))

-- a number that was cut at a limit has the same product, up to the limit
pub product_capped : (most n k : ℕ) → 0 < k → min (min n most * k) most ≡ min (n * k) most
product_capped most n k pos = elim (cases_lt n most) [
  | inl l ↦ let e : min n most ≡ n = omega arith in rw e refl
  | inr l ↦
      let e : min n most ≡ most = omega arith in
      let low : most * 1 ≤ most * k = mul-le-mul_left most (omega arith) in
      let more : most * k ≤ n * k = mul-le-mul_right k l in
      rw e (omega arith)
]
