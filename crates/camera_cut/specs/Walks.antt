-- The way over an outline.
use Rattle.std.specs.Prelude.{ℕ, Bool, false, nat_lt, Option, Some, None}

-- whether there is a last length, and a number is above it
abbrev pub is_longer : Option ℕ → ℕ → Bool
is_longer None n = false
is_longer (Some k) n = nat_lt k n
