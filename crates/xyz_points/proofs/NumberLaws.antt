-- Digits, and the numbers that they write.
use Rattle.std.proofs.Common.{◌≡◌, ℕ, zero, suc, ◌+◌, ◌-◌, ◌*◌, ◌^◌, ◌<◌, ◌≤◌, min, nat_le, ◌==◌, Bool, true, false, List, [], ◌∷◌, ◌++◌, length, get_or, take, ap, ◌∙◌, sym, refl, arith, inl, inr}
use Rattle.std.specs.Char.{is_ascii_digit}
use Rattle.std.specs.List.{list_all, prefix_len}
use Rattle.std.proofs.Math.Nat.{pow-suc, mul-le-mul_left}
use Rattle.std.proofs.lemmas.Bool.{and_parts, cases_eq, leb-true, ne_eqb}
use Rattle.std.proofs.lemmas.List.{get_or-take, length-take-le, take_all}
use Rattle.std.proofs.lemmas.List.Folds.{length-prefix_len, list_all_at}
use Rattle.std.proofs.lemmas.List.Sums.{AllPass-from_list_all, fold-append, list_all-from_AllPass, prefix_len_is, prefix_len_passes, prefix_len_stops}
use Rattle.xyz_points.specs.Numbers.{number, number_after}

-- digits behind other digits
pub number-append : (n : ℕ) (xs ys : List ℕ) → number_after n (xs ++ ys) ≡ number_after (number_after n xs) ys
number-append n xs ys = fold-append (λ n digit. 10 * n + (digit - 48)) n xs ys

-- a power of ten is above 0
pub ten_pow_pos : (k : ℕ) → 0 < 10 ^ k
ten_pow_pos zero = omega arith
ten_pow_pos (suc k) = rw (pow-suc 10 k) (omega (arith, ten_pow_pos k))

-- what stands before digits is moved up by as many places
pub number_shift : (n : ℕ) (ds : List ℕ) → number_after n ds ≡ n * 10 ^ length ds + number ds
number_shift n [] = omega arith
number_shift n (d ∷ ds) =
    let here : number_after (10 * n + (d - 48)) ds ≡ (10 * n + (d - 48)) * 10 ^ length ds + number ds = number_shift (10 * n + (d - 48)) ds in
    let first : number_after (10 * 0 + (d - 48)) ds ≡ (10 * 0 + (d - 48)) * 10 ^ length ds + number ds = number_shift (10 * 0 + (d - 48)) ds in
    rw (pow-suc 10 (length ds)) (omega arith)

-- what a digit's byte says
pub record IsDigit (d : ℕ) : Type 0 where
  pub low : 48 ≤ d
  pub high : d ≤ 57

-- a byte that passes the test of digits is one
pub digit : (d : ℕ) → is_ascii_digit d ≡ true → IsDigit d
digit d h = let p = and_parts (nat_le 48 d) (nat_le d 57) h in record { low = leb-true 48 d p.0; high = leb-true d 57 p.1 }

-- so many digits write a number below this power of ten
pub number-lt : (ds : List ℕ) → list_all is_ascii_digit ds ≡ true → number ds < 10 ^ length ds
number-lt [] h = omega arith
number-lt (d ∷ ds) h =
    let p = and_parts (is_ascii_digit d) (list_all is_ascii_digit ds) h in
    let rest : number ds < 10 ^ length ds = number-lt ds p.1 in
    let first : number_after (10 * 0 + (d - 48)) ds ≡ (10 * 0 + (d - 48)) * 10 ^ length ds + number ds = number_shift (10 * 0 + (d - 48)) ds in
    let one : IsDigit d = digit d p.0 in
    let few : d - 48 ≤ 9 = omega arith in
    let most : 10 ^ length ds * (d - 48) ≤ 10 ^ length ds * 9 = mul-le-mul_left (10 ^ length ds) few in
    rw (pow-suc 10 (length ds)) (omega arith)

-- digits write 0 exactly where they are all zeros
pub zeros_write_zero : (ds : List ℕ) → list_all is_ascii_digit ds ≡ true → list_all (λ b. b == 48) ds ≡ (number ds == 0)
zeros_write_zero [] h = refl
zeros_write_zero (d ∷ ds) h =
    let p = and_parts (is_ascii_digit d) (list_all is_ascii_digit ds) h in
    elim (cases_eq d 48) [
      | inl e ↦ rw e (zeros_write_zero ds p.1)
      | inr ne ↦
          let first : number_after (10 * 0 + (d - 48)) ds ≡ (10 * 0 + (d - 48)) * 10 ^ length ds + number ds = number_shift (10 * 0 + (d - 48)) ds in
          let one : IsDigit d = digit d p.0 in
          let some : 1 ≤ d - 48 = omega arith in
          let least : 10 ^ length ds * 1 ≤ 10 ^ length ds * (d - 48) = mul-le-mul_left (10 ^ length ds) some in
          let pos : 0 < 10 ^ length ds = ten_pow_pos (length ds) in
          rw (ne_eqb d 48 ne) (sym (ne_eqb (number (d ∷ ds)) 0 (λ z. absurd (omega arith))))
    ]

-- a number that was cut at a limit goes on as the number itself, up to the limit
pub number_capped : (most n : ℕ) (ds : List ℕ) → min (number_after (min n most) ds) most ≡ min (number_after n ds) most
number_capped most n [] = omega arith
number_capped most n (d ∷ ds) =
    let same : min (10 * min n most + (d - 48)) most ≡ min (10 * n + (d - 48)) most = omega arith in
    sym (number_capped most (10 * min n most + (d - 48)) ds) ∙ ap (λ m. min (number_after m ds) most) same ∙ number_capped most (10 * n + (d - 48)) ds

-- all pass where the run of those that pass is the whole
pub all_pass : (p : ℕ → Bool) (xs : List ℕ) → prefix_len p xs ≡ length xs → list_all p xs ≡ true
all_pass p xs whole = list_all-from_AllPass p xs (λ k d within. prefix_len_passes p xs k d (omega (arith, whole, within)))

-- and not where it ends before
pub not_all_pass : (p : ℕ → Bool) (xs : List ℕ) → prefix_len p xs < length xs → list_all p xs ≡ false
not_all_pass p xs less = list_all_at p xs (prefix_len p xs) 0 less (prefix_len_stops p xs 0 less)

-- the run passes
pub run_passes : (p : ℕ → Bool) (xs : List ℕ) → list_all p (take (prefix_len p xs) xs) ≡ true
run_passes p xs = list_all-from_AllPass p (take (prefix_len p xs) xs) (λ k d within.
    let l : k < prefix_len p xs = omega (arith, within, length-prefix_len p xs) in
    rw (get_or-take (prefix_len p xs) xs k d l) (prefix_len_passes p xs k d l))

-- a run that ends at an element that fails
pub run_at : (p : ℕ → Bool) (xs : List ℕ) (k : ℕ) → k < length xs → list_all p (take k xs) ≡ true → p (get_or xs k 0) ≡ false → prefix_len p xs ≡ k
run_at p xs k within run stop = prefix_len_is p xs k 0 (omega arith)
    (λ i l. let h : list_all p (take k xs) ≡ true → p (get_or xs i 0) ≡ true = λ r. rw (get_or-take k xs i 0 l) at (AllPass-from_list_all p (take k xs) r i 0 (omega (arith, length-take-le k xs, l, within))) in h run)
    (λ _. stop)

-- a run that goes to the end
pub all_run : (p : ℕ → Bool) (xs : List ℕ) (k : ℕ) → length xs ≤ k → list_all p (take k xs) ≡ true → prefix_len p xs ≡ length xs
all_run p xs k all run = prefix_len_is p xs (length xs) 0 (omega arith)
    (λ i l. AllPass-from_list_all p xs (ap (list_all p) (sym (take_all k xs all)) ∙ run) i 0 l) (λ l. absurd (omega arith))
