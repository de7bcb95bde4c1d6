use Rattle.std.proofs.Common.{◌≡◌, ◌++◌, string_bytes, take}
use Rattle.std.specs.List.{flat_map}
use Rattle.octree_plain.specs.Listing.{voxel_line}
use Rattle.octree_plain.proofs.listing.write_voxels.Given as goal

abbrev pub invariant-loop-voxel : goal.invariant-loop-voxel
invariant-loop-voxel l = string_bytes l.out ≡ string_bytes l.fn.out ++ flat_map voxel_line (take l.voxel-index l.voxels)
