-- Where the middle of a cell lies.
use Rattle.std.proofs.Common.{◌≡◌, ℕ, ◌+◌, ◌-◌, ◌*◌, ◌%◌, ◌^◌, ◌<◌, ◌≤◌, ap, ◌∙◌, sym, arith}
use Rattle.std.proofs.lemmas.Nat.{pow-add, one_shl}
use Rattle.std.proofs.Math.Nat.{mul-le-mul_right, mod-eq_of_lt, pow-le-pow_right}
use Rattle.cube_math.proofs.Axes.{CellSide, cell_side}

-- a whole side has 128 cells
whole_side : (bits : ℕ) → 7 < bits → 128 * 2 ^ (bits - 7) ≡ 2 ^ bits
whole_side bits low = let parts : 7 + (bits - 7) ≡ bits = omega arith in sym (pow-add 2 7 (bits - 7)) ∙ ap (λ n. 2 ^ n) parts

-- the middle of each cell lies below the end of the axis
pub off_small : (bits index : ℕ) → 7 < bits → bits ≤ 31 → index < 128 → index * 2 ^ (bits - 7) + 2 ^ (bits - 8) < 2 ^ bits
off_small bits index low high i =
    let side : CellSide bits = cell_side bits low high in
    let last : (index + 1) * 2 ^ (bits - 7) ≤ 128 * 2 ^ (bits - 7) = mul-le-mul_right (2 ^ (bits - 7)) (omega arith) in
    let split : (index + 1) * 2 ^ (bits - 7) ≡ index * 2 ^ (bits - 7) + 2 ^ (bits - 7) = omega arith in
    omega (arith, side.twice, side.some, whole_side bits low)

-- so a register of 32 bits keeps it
pub off_kept : (bits index : ℕ) → 7 < bits → bits ≤ 31 → index < 128
    → index * 2 ^ (bits - 7) % 4294967296 + 1 * 2 ^ (bits - 8) % 4294967296 ≡ index * 2 ^ (bits - 7) + 2 ^ (bits - 8)
off_kept bits index low high i =
    let most : 2 ^ bits ≤ 2 ^ 31 = let two : 0 < 2 = omega arith in pow-le-pow_right two high in
    let small : index * 2 ^ (bits - 7) + 2 ^ (bits - 8) < 2 ^ bits = off_small bits index low high i in
    let first : index * 2 ^ (bits - 7) % 4294967296 ≡ index * 2 ^ (bits - 7) = mod-eq_of_lt (omega arith) in
    let second : 1 * 2 ^ (bits - 8) % 4294967296 ≡ 2 ^ (bits - 8) = one_shl (bits - 8) 32 (omega arith) in
    λ j. first j + second j

-- and one of 32 bits with a sign keeps where it lies
pub off_fits : (bits index : ℕ) → 7 < bits → bits ≤ 31 → index < 128 → index * 2 ^ (bits - 7) + 2 ^ (bits - 8) < 2 ^ 32
off_fits bits index low high i =
    let most : 2 ^ bits ≤ 2 ^ 31 = let two : 0 < 2 = omega arith in pow-le-pow_right two high in
    omega (arith, off_small bits index low high i)
