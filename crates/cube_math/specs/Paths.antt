-- Paths: the octants from the root to a node, kept in 24 places with zeros behind them.
use Rattle.std.specs.Prelude.{ℕ, ◌≡◌, ◌≤◌, ◌-◌, ◌++◌, List, take, length, replicate, ◌<◌, EachIndex, slice_index}
use Rattle.std.proofs.Common.{ap, ◌∙◌, sym, arith}
use Rattle.std.proofs.lemmas.List.{length-take-le}
use Rattle.cube_math.specs.declared.path.Path.TheInside.{Inside}

-- so many octants, each below 8, and zeros behind them
pub record IsPath (octants : List ℕ) (len : ℕ) : Type 0 where
  pub long : length octants ≡ 24
  pub few : len ≤ 24
  pub small : EachIndex octants (λ k. slice_index octants k < 8)
  pub padded : octants ≡ take len octants ++ replicate (24 - len) 0

-- the octants of a path
abbrev pub octants_of : Inside → List ℕ
octants_of p = take p.len p.octants

-- how octants are kept
abbrev pub path_of : List ℕ → Inside
path_of l = record { octants = l ++ replicate (24 - length l) 0; len = length l }

-- a path as it is kept
abbrev pub IsKept : Inside → Type 0
IsKept p = IsPath p.octants p.len

-- the list gives the fields back
pub path_back : (p : Inside) → IsKept p → path_of (octants_of p) ≡ p
path_back p h =
    let n : length (take p.len p.octants) ≡ p.len = length-take-le p.len p.octants (omega arith) in
    let o : take p.len p.octants ++ replicate (24 - length (take p.len p.octants)) 0 ≡ p.octants = ap (λ k. take p.len p.octants ++ replicate (24 - k) 0) n ∙ sym h.padded in
    λ i. record { octants = o i; len = n i }
