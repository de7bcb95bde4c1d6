use Rattle.std.proofs.Common.{◌≡◌, ◌≤◌, ◌*◌, ◌^◌, ℤ, unsigned_abs, ◌+ℤ◌, ◌-ℤ◌, ◌*ℤ◌, arith, refl, rules, lit<, FitsSigned, to_z, of_z, w32, w64}
use Rattle.std.proofs.lemmas.Int.{fits_signed_from_abs, to_z-of_z}
use Rattle.picture_model.specs.Cameras.{floor_over}
use Rattle.camera_cut.proofs.Sizes.{abs_add, abs_floor, kept, shr_floor}
use Rattle.camera_cut.proofs.camera.along.Goals as goal

-- the sums are small
two_small : (a b : ℤ) → unsigned_abs a ≤ 2 ^ 42 → unsigned_abs b ≤ 2 ^ 42 → unsigned_abs (a +ℤ b) ≤ 2 ^ 43
two_small a b p q = omega (arith, abs_add a b)

three_small : (a b c : ℤ) → unsigned_abs a ≤ 2 ^ 42 → unsigned_abs b ≤ 2 ^ 42 → unsigned_abs c ≤ 2 ^ 42 → unsigned_abs (a +ℤ b +ℤ c) ≤ 3 * 2 ^ 42
three_small a b c p q r = omega (arith, abs_add (a +ℤ b) c, abs_add a b)

floor_small : (a b c : ℤ) → unsigned_abs a ≤ 2 ^ 42 → unsigned_abs b ≤ 2 ^ 42 → unsigned_abs c ≤ 2 ^ 42 → unsigned_abs (floor_over (a +ℤ b +ℤ c) 1024) ≤ 3 * 2 ^ 32
floor_small a b c p q r = abs_floor (a +ℤ b +ℤ c) 1024 (3 * 2 ^ 32) (lit< tt) (omega (arith, three_small a b c p q r))

-- so nothing of them is lost
sum_kept : (a b c : ℤ) → unsigned_abs a ≤ 2 ^ 42 → unsigned_abs b ≤ 2 ^ 42 → unsigned_abs c ≤ 2 ^ 42
    → to_z w64 (of_z w64 (to_z w64 (of_z w64 (to_z w64 (of_z w64 a) +ℤ to_z w64 (of_z w64 b))) +ℤ to_z w64 (of_z w64 c))) ≡ a +ℤ b +ℤ c
sum_kept a b c p q r =
    let first : to_z w64 (of_z w64 a) ≡ a = kept a (omega arith) in
    let second : to_z w64 (of_z w64 b) ≡ b = kept b (omega arith) in
    let third : to_z w64 (of_z w64 c) ≡ c = kept c (omega arith) in
    let two : to_z w64 (of_z w64 (a +ℤ b)) ≡ a +ℤ b = kept (a +ℤ b) (omega (arith, two_small a b p q)) in
    let three : to_z w64 (of_z w64 (a +ℤ b +ℤ c)) ≡ a +ℤ b +ℤ c = kept (a +ℤ b +ℤ c) (omega (arith, three_small a b c p q r)) in
    rw (first, second, two, third, three) refl

-- a part, of numbers that fit 32 bits
part_of : (row at eye part : ℤ) → FitsSigned w32 row → FitsSigned w32 at → FitsSigned w32 eye
    → part ≡ to_z w32 (of_z w32 row) *ℤ (to_z w32 (of_z w32 at) -ℤ to_z w32 (of_z w32 eye)) → part ≡ row *ℤ (at -ℤ eye)
part_of row at eye part p q r is = rw (to_z-of_z w32 row p, to_z-of_z w32 at q, to_z-of_z w32 eye r) at is

pub overflow_add-across : goal.overflow_add-across
overflow_add-across c =
    let a : ℤ = c.part.result in
    let b : ℤ = c.part-2.result in
    let first : to_z w64 (of_z w64 a) ≡ a = kept a (omega (arith, c.part.ensures.small)) in
    let second : to_z w64 (of_z w64 b) ≡ b = kept b (omega (arith, c.part-2.ensures.small)) in
    rw (first, second) (fits_signed_from_abs w64 (a +ℤ b) (omega (arith, two_small a b c.part.ensures.small c.part-2.ensures.small)))

pub overflow_add-across-2 : goal.overflow_add-across-2
overflow_add-across-2 c =
    let a : ℤ = c.part.result in
    let b : ℤ = c.part-2.result in
    let d : ℤ = c.part-3.result in
    let first : to_z w64 (of_z w64 a) ≡ a = kept a (omega (arith, c.part.ensures.small)) in
    let second : to_z w64 (of_z w64 b) ≡ b = kept b (omega (arith, c.part-2.ensures.small)) in
    let third : to_z w64 (of_z w64 d) ≡ d = kept d (omega (arith, c.part-3.ensures.small)) in
    let two : to_z w64 (of_z w64 (a +ℤ b)) ≡ a +ℤ b = kept (a +ℤ b) (omega (arith, two_small a b c.part.ensures.small c.part-2.ensures.small)) in
    rw (first, second, two, third) (fits_signed_from_abs w64 (a +ℤ b +ℤ d) (omega (arith, three_small a b d c.part.ensures.small c.part-2.ensures.small c.part-3.ensures.small)))

pub returns-clause-value : goal.returns-clause-value
returns-clause-value c =
    let a : ℤ = c.part.result in
    let b : ℤ = c.part-2.result in
    let d : ℤ = c.part-3.result in
    let sum : to_z w64 (of_z w64 (to_z w64 (of_z w64 (to_z w64 (of_z w64 a) +ℤ to_z w64 (of_z w64 b))) +ℤ to_z w64 (of_z w64 d))) ≡ a +ℤ b +ℤ d =
    sum_kept a b d c.part.ensures.small c.part-2.ensures.small c.part-3.ensures.small in
    let small : unsigned_abs (floor_over (a +ℤ b +ℤ d) 1024) ≤ 3 * 2 ^ 32 = floor_small a b d c.part.ensures.small c.part-2.ensures.small c.part-3.ensures.small in
    let whole : to_z w64 (of_z w64 (floor_over (a +ℤ b +ℤ d) 1024)) ≡ floor_over (a +ℤ b +ℤ d) 1024 = kept (floor_over (a +ℤ b +ℤ d) 1024) (omega arith) in
    let ex : FitsSigned w32 c.args.eye.x = search rules in
    let ey : FitsSigned w32 c.args.eye.y = search rules in
    let ez : FitsSigned w32 c.args.eye.z = search rules in
    let rx : FitsSigned w32 c.args.row.x = search rules in
    let ry : FitsSigned w32 c.args.row.y = search rules in
    let rz : FitsSigned w32 c.args.row.z = search rules in
    let ax : FitsSigned w32 c.args.at.x = search rules in
    let ay : FitsSigned w32 c.args.at.y = search rules in
    let az : FitsSigned w32 c.args.at.z = search rules in
    let x : a ≡ c.args.row.x *ℤ (c.args.at.x -ℤ c.args.eye.x) = part_of c.args.row.x c.args.at.x c.args.eye.x a rx ax ex c.part.ensures.value in
    let y : b ≡ c.args.row.y *ℤ (c.args.at.y -ℤ c.args.eye.y) = part_of c.args.row.y c.args.at.y c.args.eye.y b ry ay ey c.part-2.ensures.value in
    let z : d ≡ c.args.row.z *ℤ (c.args.at.z -ℤ c.args.eye.z) = part_of c.args.row.z c.args.at.z c.args.eye.z d rz az ez c.part-3.ensures.value in
    rw (sum, shr_floor (a +ℤ b +ℤ d) 1024, whole, x, y, z) refl

pub returns-clause-small : goal.returns-clause-small
returns-clause-small c =
    let a : ℤ = c.part.result in
    let b : ℤ = c.part-2.result in
    let d : ℤ = c.part-3.result in
    let sum : to_z w64 (of_z w64 (to_z w64 (of_z w64 (to_z w64 (of_z w64 a) +ℤ to_z w64 (of_z w64 b))) +ℤ to_z w64 (of_z w64 d))) ≡ a +ℤ b +ℤ d =
    sum_kept a b d c.part.ensures.small c.part-2.ensures.small c.part-3.ensures.small in
    let small : unsigned_abs (floor_over (a +ℤ b +ℤ d) 1024) ≤ 3 * 2 ^ 32 = floor_small a b d c.part.ensures.small c.part-2.ensures.small c.part-3.ensures.small in
    let whole : to_z w64 (of_z w64 (floor_over (a +ℤ b +ℤ d) 1024)) ≡ floor_over (a +ℤ b +ℤ d) 1024 = kept (floor_over (a +ℤ b +ℤ d) 1024) (omega arith) in
    rw (sum, shr_floor (a +ℤ b +ℤ d) 1024, whole) (omega arith)
