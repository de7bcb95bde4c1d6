use Rattle.std.proofs.Common.{to_z, of_z, w32, rules, arith}
use Rattle.octree_plain.specs.Fitting.{on_x, on_y, on_z}
use Rattle.octree_plain.proofs.FittingLaws.{Axis, axis_from, fits_space, fitted, is_fitted, contains_all}
use Rattle.octree_plain.proofs.fitting.fit_cube.Goals as goal

x_axis : (c : goal.After-origin-3) → Axis (on_x c.args.points.now) c.in_ok-x.x c.bits_above-bits.result (to_z w32 (of_z w32 c.origin.result))
x_axis c =
    axis_from _ _ _ c.origin.result c.in_ok-x.x c.max-2.result c.bits_above-bits.result c.extents_of-all.ensures.x.0 c.extents_of-all.ensures.x.1 (search rules)
    c.in_ok-x.ensures.ok.0 c.in_ok-x.ensures.ok.1 (omega arith) c.bits_above-bits.ensures.above (search rules) c.origin.ensures

y_axis : (c : goal.After-origin-3) → Axis (on_y c.args.points.now) c.in_ok-y.y c.bits_above-bits.result (to_z w32 (of_z w32 c.origin-2.result))
y_axis c =
    axis_from _ _ _ c.origin-2.result c.in_ok-y.y c.max-2.result c.bits_above-bits.result c.extents_of-all.ensures.y.0 c.extents_of-all.ensures.y.1 (search rules)
    c.in_ok-y.ensures.ok.0 c.in_ok-y.ensures.ok.1 (omega arith) c.bits_above-bits.ensures.above (search rules) c.origin-2.ensures

z_axis : (c : goal.After-origin-3) → Axis (on_z c.args.points.now) c.in_ok-z.z c.bits_above-bits.result (to_z w32 (of_z w32 c.origin-3.result))
z_axis c =
    axis_from _ _ _ c.origin-3.result c.in_ok-z.z c.max-2.result c.bits_above-bits.result c.extents_of-all.ensures.z.0 c.extents_of-all.ensures.z.1 (search rules)
    c.in_ok-z.ensures.ok.0 c.in_ok-z.ensures.ok.1 (omega arith) c.bits_above-bits.ensures.above (search rules) c.origin-3.ensures

pub invariant_of-result : goal.invariant_of-result
invariant_of-result c =
    fits_space c.args.points.now _ _ _ _ _ _ _ (x_axis c) (y_axis c) (z_axis c) c.bits_above-bits.ensures.low c.bits_above-bits.ensures.high

pub returns-clause-fitted : goal.returns-clause-fitted
returns-clause-fitted c =
    is_fitted c.args.points.now _ c.bits_above-bits.ensures.high (fitted c.args.points.now _ _ _ _ _ _ _ (x_axis c) (y_axis c) (z_axis c) c.bits_above-bits.ensures.low (rw (← c.max.ensures, ← c.max-2.ensures) c.bits_above-bits.ensures.least))

pub returns-clause-contained : goal.returns-clause-contained
returns-clause-contained c = contains_all c.args.points.now _ _ _ _ _ _ _ (x_axis c) (y_axis c) (z_axis c)
