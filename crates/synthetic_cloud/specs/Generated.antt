-- The points of a seed.
use Rattle.std.specs.Prelude.{ℕ, zero, suc, ◌+◌, ◌*◌, ◌/◌, ◌%◌, ◌^◌, pos, List, [], ◌∷◌, ◌++◌}
use Rattle.cube_math.specs.Points.{PointValue}

-- the state after another
abbrev pub next : ℕ → ℕ
next state = (6364136223846793005 * state + 1442695040888963407) % 2 ^ 64

-- the states of a seed: the seed, and after each state the next
abbrev pub state_at : ℕ → ℕ → ℕ
state_at seed zero = seed
state_at seed (suc k) = next (state_at seed k)

-- the point of three states
abbrev pub point_of : ℕ → ℕ → ℕ → PointValue
point_of first second third =
    record { x = pos (first / 2 ^ 44); y = pos (second / 2 ^ 44); z = pos (third / 2 ^ 50); rgb = third / 2 ^ 20 % 2 ^ 24 }

-- the point with this number, from 0: each point takes the next three states
abbrev pub point_at : ℕ → ℕ → PointValue
point_at seed i = point_of (state_at seed (3 * i + 1)) (state_at seed (3 * i + 2)) (state_at seed (3 * i + 3))

-- the first so many points
unfoldable pub generated : ℕ → ℕ → List PointValue
generated seed zero = []
generated seed (suc n) = generated seed n ++ point_at seed n ∷ []
