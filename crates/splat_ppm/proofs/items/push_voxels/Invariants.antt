use Rattle.std.proofs.Common.{◌≡◌, ◌++◌, map, take}
use Rattle.picture_model.specs.Items.{voxel_item}
use Rattle.splat_ppm.proofs.items.push_voxels.Given as goal

abbrev pub invariant-loop-voxel : goal.invariant-loop-voxel
invariant-loop-voxel l = l.out.items ≡ l.fn.out.items ++ map (voxel_item l.fn.cube) (take l.voxel-index l.voxels)
