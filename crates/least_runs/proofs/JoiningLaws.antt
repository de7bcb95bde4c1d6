-- When runs should be joined.
use Rattle.std.proofs.Common.{◌≡◌, ℕ, ◌+◌, ◌<◌, ◌≤◌, inl, List, ◌∷◌, map, take, length, get_or, subst, ap, sym, arith, sum}
use Rattle.std.proofs.lemmas.List.Sums.{sum_by_more_le, sum-map}
use Rattle.least_runs.specs.Runs.{IsJoinDue}

-- the runs up to this one have enough entries
pub enough_entries : {A : Type 0} (len : A → ℕ) (runs behind : List A) (first run : A) (i room start n : ℕ) → runs ≡ first ∷ behind → i < length behind → run ≡ get_or behind i run → n ≡ len run → sum (map len (take i behind)) + room ≡ start
    → start ≡ len first + 1024 → room ≤ n → IsJoinDue (map len runs)
enough_entries {A} len runs behind first run i room start n is l at counted so_far began many =
    let enough : len first + 1024 ≤ sum (map len behind) = omega (arith, sum_by_more_le len behind i run l, sum-map len behind, sum-map len (take i behind), ap len at) in
    subst (λ (rs : List A). IsJoinDue (map len rs)) (sym is) (inl enough)
