-- How large sums, products and quotients of signed numbers get.
use Rattle.std.proofs.Common.{◌≡◌, ℕ, suc, ◌+◌, ◌*◌, ◌/◌, ◌^◌, ◌<◌, ◌≤◌, ℤ, pos, negsuc, ◌+ℤ◌, ◌-ℤ◌, ◌*ℤ◌, unsigned_abs, arith, refl, to_z, of_z, w32, w64, FitsSigned}
use Rattle.std.proofs.lemmas.Int.{ints, unsigned_abs-mul, to_z-of_z, fits_signed_from_abs}
use Rattle.std.specs.Int.Signed.{shr_z}
use Rattle.std.proofs.lemmas.Nat.{div_below}
use Rattle.std.proofs.Math.Nat.{mul-le-mul}
use Rattle.picture_model.specs.Cameras.{floor_over}

pub abs_add : (a b : ℤ) → unsigned_abs (a +ℤ b) ≤ unsigned_abs a + unsigned_abs b
abs_add (pos a) (pos b) = omega arith
abs_add (pos a) (negsuc b) = grind (arith, ints)
abs_add (negsuc a) (pos b) = grind (arith, ints)
abs_add (negsuc a) (negsuc b) = omega arith

pub abs_mul : (a b : ℤ) (m n : ℕ) → unsigned_abs a ≤ m → unsigned_abs b ≤ n → unsigned_abs (a *ℤ b) ≤ m * n
abs_mul a b m n p q = let product : unsigned_abs a * unsigned_abs b ≤ m * n = mul-le-mul p q in omega (arith, unsigned_abs-mul a b)

-- a quotient is no larger than m where the number is no larger than m divisors
pub abs_floor : (z : ℤ) (d m : ℕ) → 0 < d → unsigned_abs z ≤ m * d → unsigned_abs (floor_over z d) ≤ m
abs_floor (pos n) d m p h =
    let below : n / d < suc m = div_below n d (suc m) p (omega arith) in omega arith
abs_floor (negsuc n) d m p h =
    let below : n / d < m = div_below n d m p (omega arith) in omega arith

-- what a register of 64 bits keeps of a small number
pub kept : (z : ℤ) → unsigned_abs z < 2 ^ 63 → to_z w64 (of_z w64 z) ≡ z
kept z h = to_z-of_z w64 z (fits_signed_from_abs w64 z h)

-- a shift that copies the sign bit rounds down
pub shr_floor : (z : ℤ) (d : ℕ) → shr_z z d ≡ floor_over z d
shr_floor (pos n) d = refl
shr_floor (negsuc n) d = refl

-- how far apart two numbers of 32 bits lie
pub abs_off : (a b : ℤ) → FitsSigned w32 a → FitsSigned w32 b → unsigned_abs (a -ℤ b) ≤ 2 ^ 32
abs_off (pos a) (pos b) p q = grind (arith, ints, p.sfits, q.sfits)
abs_off (pos a) (negsuc b) p q = grind (arith, ints, p.sfits, q.sfits)
abs_off (negsuc a) (pos b) p q = grind (arith, ints, p.sfits, q.sfits)
abs_off (negsuc a) (negsuc b) p q = grind (arith, ints, p.sfits, q.sfits)
