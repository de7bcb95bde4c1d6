use Rattle.std.proofs.Common.{◌≡◌, ◌++◌, ◌∷◌, length, take, flat_map}
use Rattle.octree_file.specs.Spelling.{u32_bytes, voxel_bytes}
use Rattle.octree_file.proofs.writing.write_voxels.Given as goal

abbrev pub invariant-loop-voxel : goal.invariant-loop-voxel
invariant-loop-voxel l = l.out.items ≡ l.fn.out.items ++ (1 ∷ u32_bytes (length l.voxels)) ++ flat_map voxel_bytes (take l.voxel-index l.voxels)
