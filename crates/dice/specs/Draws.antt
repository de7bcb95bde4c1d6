-- The numbers that dice show.
use Rattle.std.specs.Prelude.{ℕ, ◌+◌, ◌*◌, ◌/◌, ◌%◌, ◌^◌}

-- the state after another
abbrev pub next : ℕ → ℕ
next state = (state * 6364136223846793005 % 2 ^ 64 + 1442695040888963407) % 2 ^ 64

-- the number that a state shows
abbrev pub drawn : ℕ → ℕ
drawn state = state / 2 ^ 32
