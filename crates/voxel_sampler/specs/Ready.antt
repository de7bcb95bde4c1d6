-- What is ready to be merged.
use Rattle.std.specs.Prelude.{ℕ, ◌≡◌, true, List, ◌++◌}
use Rattle.octree_model.specs.Numbers.{has, ascending}
use Rattle.octree_model.specs.Voxels.{VoxelValue}
use Rattle.occupancy_grid.specs.Grids.{GridValue}
use Rattle.occupancy_grid.specs.Pages.{page_of}
use Rattle.voxel_sampler.specs.Nears.{NearValue, cells_of}
use Rattle.voxel_sampler.specs.Order.{IsAscending}
use Rattle.voxel_sampler.specs.Runs.{voxel_cells}

-- the least keys as they will be, and the run
pub record ReadyValue : Type 0 where
  pub nears : List NearValue
  pub run : List VoxelValue

-- it was made from this grid and these entries as they are: the grid has their cells, and the pages of the
-- run's; the cells to come are those of both
pub record IsReadyFor (grid : GridValue) (best : List NearValue) (ready : ReadyValue) : Type 0 where
  pub cells : grid.cells ≡ cells_of best
  pub known : IsAscending grid.cells
  pub order : IsAscending (voxel_cells ready.run)
  pub more : cells_of ready.nears ≡ ascending (grid.cells ++ voxel_cells ready.run)
  pub pages : (z : ℕ) → has z (voxel_cells ready.run) ≡ true → has (page_of z) grid.pages ≡ true
