-- Sums over the numbers below a count.
use Rattle.std.proofs.Common.{◌≡◌, ℕ, zero, suc, ◌+◌, ◌<◌, ◌≤◌, List, [], ◌∷◌, map, sum_by, refl, arith}
use Rattle.std.proofs.lemmas.List.Sums.{sum_by-cons}

-- f of each number below the count, added up
abbrev pub below : (ℕ → ℕ) → ℕ → ℕ
below f zero = 0
below f (suc n) = below f n + f n

pub below_same : (f h : ℕ → ℕ) (n : ℕ) → ((k : ℕ) → k < n → f k ≡ h k) → below f n ≡ below h n
below_same f h zero e = refl
below_same f h (suc n) e = let r = below_same f h n (λ k l. e k (omega arith)) in let t = e n (omega arith) in omega arith

pub below_le : (f h : ℕ → ℕ) (n : ℕ) → ((k : ℕ) → k < n → f k ≤ h k) → below f n ≤ below h n
below_le f h zero e = omega arith
below_le f h (suc n) e = let r = below_le f h n (λ k l. e k (omega arith)) in let t = e n (omega arith) in omega arith

pub below_both : (f h : ℕ → ℕ) (n : ℕ) → below (λ k. f k + h k) n ≡ below f n + below h n
below_both f h zero = refl
below_both f h (suc n) = let r = below_both f h n in omega arith

pub below_zero : (f : ℕ → ℕ) (n : ℕ) → ((k : ℕ) → k < n → f k ≡ 0) → below f n ≡ 0
below_zero f zero e = refl
below_zero f (suc n) e = let r = below_zero f n (λ k l. e k (omega arith)) in let t = e n (omega arith) in omega arith

-- a sum over what a function makes of a list
pub sum_by-map : {X Y : Type 0} (f : Y → ℕ) (h : X → Y) (xs : List X) → sum_by f (map h xs) ≡ sum_by (λ x. f (h x)) xs
sum_by-map f h [] = refl
sum_by-map f h (x ∷ xs) = let r = sum_by-map f h xs in let a = sum_by-cons f (h x) (map h xs) in let b = sum_by-cons (λ y. f (h y)) x xs in omega arith
