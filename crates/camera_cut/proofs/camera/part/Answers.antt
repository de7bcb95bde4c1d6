use Rattle.std.proofs.Common.{◌≡◌, ◌≤◌, ◌*◌, ◌^◌, ◌∙◌, ℤ, unsigned_abs, ◌-ℤ◌, ◌*ℤ◌, arith, refl, rules, lit<, FitsSigned, to_z, of_z, w32, w64}
use Rattle.std.proofs.lemmas.Int.{fits_signed_mul, to_z-of_z}
use Rattle.camera_cut.proofs.Sizes.{abs_mul, abs_off, kept}
use Rattle.camera_cut.proofs.camera.part.Goals as goal

-- an i32 as an i64
widened : (z w : ℤ) → FitsSigned w32 z → FitsSigned w64 w → w ≡ to_z w32 (of_z w32 z) → to_z w64 (of_z w64 w) ≡ z
widened z w p q e = to_z-of_z w64 w q ∙ e ∙ to_z-of_z w32 z p

pub overflow_mul-result : goal.overflow_mul-result
overflow_mul-result c =
    let a : to_z w64 (of_z w64 c.from-3.result) ≡ c.args.row = widened c.args.row c.from-3.result c.ranges.row (search rules) c.from-3.ensures in
    let b : to_z w64 (of_z w64 c.from.result) ≡ c.args.to = widened c.args.to c.from.result c.ranges.to (search rules) c.from.ensures in
    let d : to_z w64 (of_z w64 c.from-2.result) ≡ c.args.from = widened c.args.from c.from-2.result c.ranges.from (search rules) c.from-2.ensures in
    let off : unsigned_abs (c.args.to -ℤ c.args.from) ≤ 2 ^ 32 = abs_off c.args.to c.args.from c.ranges.to c.ranges.from in
    let whole : to_z w64 (of_z w64 (c.args.to -ℤ c.args.from)) ≡ c.args.to -ℤ c.args.from = kept (c.args.to -ℤ c.args.from) (omega arith) in
    rw (a, b, d, whole) (fits_signed_mul w64 c.args.row (c.args.to -ℤ c.args.from) 1024 (2 ^ 32) c.requires off (lit< tt))

pub returns : goal.returns
returns c =
    let a : to_z w64 (of_z w64 c.from-3.result) ≡ c.args.row = widened c.args.row c.from-3.result c.ranges.row (search rules) c.from-3.ensures in
    let b : to_z w64 (of_z w64 c.from.result) ≡ c.args.to = widened c.args.to c.from.result c.ranges.to (search rules) c.from.ensures in
    let d : to_z w64 (of_z w64 c.from-2.result) ≡ c.args.from = widened c.args.from c.from-2.result c.ranges.from (search rules) c.from-2.ensures in
    let off : unsigned_abs (c.args.to -ℤ c.args.from) ≤ 2 ^ 32 = abs_off c.args.to c.args.from c.ranges.to c.ranges.from in
    let whole : to_z w64 (of_z w64 (c.args.to -ℤ c.args.from)) ≡ c.args.to -ℤ c.args.from = kept (c.args.to -ℤ c.args.from) (omega arith) in
    let small : unsigned_abs (c.args.row *ℤ (c.args.to -ℤ c.args.from)) ≤ 1024 * 2 ^ 32 = abs_mul c.args.row (c.args.to -ℤ c.args.from) 1024 (2 ^ 32) c.requires off in
    let value : to_z w64 (of_z w64 (c.args.row *ℤ (c.args.to -ℤ c.args.from))) ≡ c.args.row *ℤ (c.args.to -ℤ c.args.from) = kept (c.args.row *ℤ (c.args.to -ℤ c.args.from)) (omega arith) in
    rw (a, b, d, whole, value) record { value = refl; small = small }
