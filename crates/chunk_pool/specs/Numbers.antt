-- A finite set of numbers that are free, among those below a bound.
use Rattle.std.specs.Prelude.{ℕ, ◌≤◌, IsTrue, List, refl}
use Rattle.std.specs.List.{range_with_len}
use Rattle.std.specs.Ordering.{nat_cmp}
use Rattle.std.specs.Coded.{Coded, code_by, coded×, coded_ℕ}
use Rattle.std.specs.FinSet as set

-- how many numbers there are, and which of them are free
pub record Numbers : Type 0 where
  pub size : ℕ
  pub free : set.FinSet nat_cmp

-- such a pair is stored as its two parts
abbrev pub numbers_code : Coded Numbers
numbers_code = code_by (ℕ × set.FinSet nat_cmp) (coded× coded_ℕ (set.code coded_ℕ)) (λ n. (n.size, n.free)) (λ p. record { size = p.0; free = p.1 }) (λ _. refl)

-- the numbers below n
abbrev pub all_below : ℕ → set.FinSet nat_cmp
all_below n = set.from_list (range_with_len 0 n)

-- all numbers below n are free
abbrev pub all_free : ℕ → Numbers
all_free n = record { size = n; free = all_below n }

-- whether a number is free
abbrev pub IsFree : Numbers → ℕ → Type 0
IsFree p k = IsTrue (set.contains p.free k)

-- k is free, and no lesser number is
pub record IsLeastFree (p : Numbers) (k : ℕ) : Type 0 where
  pub free : IsFree p k
  pub least : (j : ℕ) → IsFree p j → k ≤ j

-- a number is no longer free
abbrev pub without : Numbers → ℕ → Numbers
without p k = record { size = p.size; free = set.remove p.free k }

-- a number is free again
abbrev pub with_free : Numbers → ℕ → Numbers
with_free p k = record { size = p.size; free = set.insert p.free k }

-- all of these numbers are free again
abbrev pub with_all_free : Numbers → List ℕ → Numbers
with_all_free p ks = record { size = p.size; free = set.union p.free (set.from_list ks) }
