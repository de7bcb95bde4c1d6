use Rattle.std.proofs.Common.{◌≡◌, ◌≤◌, ◌*◌, ◌^◌, pos, ◌*ℤ◌, unsigned_abs, arith, refl, to_z, of_z, w64}
use Rattle.camera_cut.proofs.Sizes.{kept, abs_mul}
use Rattle.camera_cut.proofs.camera.is_large.Goals as goal

pub returns : goal.returns
returns c =
    let focal : c.from-2.result ≡ pos c.args.focal = c.from-2.ensures in
    let threshold : c.from.result ≡ pos c.args.threshold = c.from.ensures in
    let a : to_z w64 (of_z w64 (pos c.args.threshold)) ≡ pos c.args.threshold = kept (pos c.args.threshold) (omega (arith, c.requires.threshold_small)) in
    let b : to_z w64 (of_z w64 (pos c.args.focal)) ≡ pos c.args.focal = kept (pos c.args.focal) (omega (arith, c.requires.focal_small)) in
    let d : to_z w64 (of_z w64 c.args.nearest) ≡ c.args.nearest = kept c.args.nearest (omega (arith, c.requires.nearest_small)) in
    let e : to_z w64 (of_z w64 c.args.side) ≡ c.args.side = kept c.args.side (omega (arith, c.requires.side_small)) in
    let p : unsigned_abs (pos c.args.threshold *ℤ c.args.nearest) ≤ 65536 * 2 ^ 35 = abs_mul (pos c.args.threshold) c.args.nearest 65536 (2 ^ 35) c.requires.threshold_small c.requires.nearest_small in
    let q : unsigned_abs (c.args.side *ℤ pos c.args.focal) ≤ 2 ^ 31 * 65536 = abs_mul c.args.side (pos c.args.focal) (2 ^ 31) 65536 c.requires.side_small c.requires.focal_small in
    let r : to_z w64 (of_z w64 (pos c.args.threshold *ℤ c.args.nearest)) ≡ pos c.args.threshold *ℤ c.args.nearest = kept (pos c.args.threshold *ℤ c.args.nearest) (omega arith) in
    let s : to_z w64 (of_z w64 (c.args.side *ℤ pos c.args.focal)) ≡ c.args.side *ℤ pos c.args.focal = kept (c.args.side *ℤ pos c.args.focal) (omega arith) in
    rw (focal, threshold, a, b, d, e, r, s) refl
