use Rattle.std.proofs.Common.{◌≡◌, ◌++◌, map, take}
use Rattle.picture_model.specs.Items.{point_item}
use Rattle.splat_ppm.proofs.items.push_points.Given as goal

abbrev pub invariant-loop-point : goal.invariant-loop-point
invariant-loop-point l = l.out.items ≡ l.fn.out.items ++ map point_item (take l.point-index l.points)
