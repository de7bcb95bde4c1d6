use Rattle.std.proofs.Common.{◌≡◌, ◌++◌, take}
use Rattle.octree_model.specs.Numbers.{ascending}
use Rattle.voxel_sampler.specs.Runs.{voxel_cells}
use Rattle.voxel_sampler.proofs.sampling.merge.Given as goal

abbrev pub invariant-loop-voxel : goal.invariant-loop-voxel
invariant-loop-voxel l = l.grid ≡ record l.fn.grid { cells = ascending (l.fn.grid.cells ++ voxel_cells (take l.voxel-index l.voxel-items)) }
