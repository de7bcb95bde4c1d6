-- Lists of numbers.
use Rattle.std.specs.Prelude.{ℕ, zero, suc, List, [], ◌∷◌, ◌++◌, Bool, false, ◌||◌, Option, Some, None, min, nat_lt, ◌==◌, if◌then◌else◌}

-- the numbers below n, ascending
abbrev pub up_to : ℕ → List ℕ
up_to zero = []
up_to (suc n) = up_to n ++ n ∷ []

-- whether a number stands in a list
abbrev pub has : ℕ → List ℕ → Bool
has n [] = false
has n (k ∷ ks) = n == k || has n ks

-- an ascending list with one number more, where it does not stand there yet
abbrev pub with_number : ℕ → List ℕ → List ℕ
with_number n [] = n ∷ []
with_number n (k ∷ ks) = if nat_lt n k then n ∷ k ∷ ks else if n == k then k ∷ ks else k ∷ with_number n ks

-- the numbers of a list, ascending, each once
abbrev pub ascending : List ℕ → List ℕ
ascending [] = []
ascending (n ∷ ns) = with_number n (ascending ns)

-- the lesser of a number and of another one, where there is another
abbrev pub lesser : ℕ → Option ℕ → ℕ
lesser n None = n
lesser n (Some k) = min n k

-- the least number of a list, where it has one
abbrev pub least : List ℕ → Option ℕ
least [] = None
least (n ∷ ns) = Some (lesser n (least ns))
