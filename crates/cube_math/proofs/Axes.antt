use Rattle.std.proofs.Common.{◌≡◌, ℕ, ◌+◌, ◌-◌, ◌*◌, ◌/◌, ◌%◌, ◌^◌, ◌<◌, ◌≤◌, IsTrue, arith, suc, sym, ap, ◌∙◌, ℤ, pos, ◌+ℤ◌, ◌-ℤ◌, unsigned_abs}
use Rattle.std.specs.Int.{abs_diff}
use Rattle.std.proofs.lemmas.Int.{ints}
use Rattle.std.proofs.lemmas.Bool.{and_parts}
use Rattle.std.proofs.lemmas.Nat.{shr_below, one_shl, pow_pos}
use Rattle.std.proofs.Math.Nat.{pow-suc, pow-le-pow_right}
use Rattle.cube_math.specs.Points.{PointValue}
use Rattle.cube_math.specs.Cubes.{CubeValue, on_axis, contains}

-- a cube that has a point has its coordinates
pub on_x : (c : CubeValue) (p : PointValue) → IsTrue (contains c p) → IsTrue (on_axis c.ox c.bits p.x)
on_x c p h = (and_parts _ _ (and_parts _ _ h).0).0

pub on_y : (c : CubeValue) (p : PointValue) → IsTrue (contains c p) → IsTrue (on_axis c.oy c.bits p.y)
on_y c p h = (and_parts _ _ (and_parts _ _ h).0).1

pub on_z : (c : CubeValue) (p : PointValue) → IsTrue (contains c p) → IsTrue (on_axis c.oz c.bits p.z)
on_z c p h = (and_parts _ _ h).1

-- an axis of 2 ^ bits places has 128 cells
pub few_cells : (d bits : ℕ) → 7 ≤ bits → d < 2 ^ bits → d / 2 ^ (bits - 7) < 128
few_cells d bits low h =
    let e : 7 + (bits - 7) ≡ bits = omega arith in
    shr_below d 7 (bits - 7) (rw e h)

-- the half of a side, and that the code's shift gives it
pub record HalfSide (bits : ℕ) : Type 0 where
  pub twice : 2 ^ bits ≡ 2 ^ (bits - 1) + 2 ^ (bits - 1)
  pub shifted : 1 * 2 ^ (bits - 1) % 4294967296 ≡ 2 ^ (bits - 1)
  pub small : 2 ^ (bits - 1) ≤ 2 ^ 30

twice_pow : (k : ℕ) → 2 ^ suc k ≡ 2 ^ k + 2 ^ k
twice_pow k = rw pow-suc (omega arith)

-- a power of two is twice the one before
pub twice : (s : ℕ) → 0 < s → 2 ^ s ≡ 2 ^ (s - 1) + 2 ^ (s - 1)
twice s l = let e : suc (s - 1) ≡ s = omega arith in ap (λ n. 2 ^ n) (sym e) ∙ twice_pow (s - 1)

pub half_side : (bits : ℕ) → 7 ≤ bits → bits ≤ 31 → HalfSide bits
half_side bits low high =
    let k : bits - 1 ≤ 30 = omega arith in
    let k' : bits - 1 < 32 = omega arith in
    record {
      twice = twice bits (omega arith);
      shifted = one_shl (bits - 1) 32 k';
      small = let two : 0 < 2 = omega arith in pow-le-pow_right two k;
    }

-- the side of a cell, its half, and that the code's shift gives it
pub record CellSide (bits : ℕ) : Type 0 where
  pub twice : 2 ^ (bits - 7) ≡ 2 ^ (bits - 8) + 2 ^ (bits - 8)
  pub shifted : 1 * 2 ^ (bits - 7) % 4294967296 ≡ 2 ^ (bits - 7)
  pub some : 0 < 2 ^ (bits - 7)
  pub small : 2 ^ (bits - 8) ≤ 2 ^ 23

pub cell_side : (bits : ℕ) → 7 < bits → bits ≤ 31 → CellSide bits
cell_side bits low high =
    let one_less : bits - 7 - 1 ≡ bits - 8 = omega arith in
    let k : bits - 8 ≤ 23 = omega arith in
    let k' : bits - 7 < 32 = omega arith in
    record {
      twice = twice (bits - 7) (omega arith) ∙ ap (λ n. 2 ^ n + 2 ^ n) one_less;
      shifted = one_shl (bits - 7) 32 k';
      some = pow_pos (bits - 7);
      small = let two : 0 < 2 = omega arith in pow-le-pow_right two k;
    }

-- from the middle of its part of an axis a coordinate lies as far as its rest from half the part's side
pub from_part_middle : (o x : ℤ) (side half d q r : ℕ) → x ≡ o +ℤ pos d → q * side + r ≡ d → unsigned_abs (x -ℤ (o +ℤ pos (q * side + half))) ≡ abs_diff r half
from_part_middle o x side half d q r at whole = grind (arith, ints)

-- a rest lies within half a side of the middle
pub rest_from_middle : (r side half : ℕ) → r < side → side ≡ half + half → abs_diff r half ≤ half
rest_from_middle r side half l e = omega arith
