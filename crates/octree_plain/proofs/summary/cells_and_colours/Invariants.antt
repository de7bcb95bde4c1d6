use Rattle.std.proofs.Common.{◌≡◌, ◌*◌, ◌≤◌, ◌^◌, take}
use Rattle.octree_plain.specs.Summary.{cells_and_colours}
use Rattle.octree_plain.proofs.summary.cells_and_colours.Given as goal

abbrev pub invariant-loop-voxel : goal.invariant-loop-voxel
invariant-loop-voxel l = record {
  value : l.sum ≡ cells_and_colours (take l.voxel-index l.voxels);
  fits : l.sum ≤ 2 ^ 25 * l.voxel-index;
}
