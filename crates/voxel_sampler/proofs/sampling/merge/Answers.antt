use Rattle.std.proofs.Common.{◌≡◌, ◌<◌, ◌++◌, List, ℕ, length, get_or, arith, ap, sym, ◌∙◌}
use Rattle.octree_model.specs.Numbers.{has, with_number, ascending}
use Rattle.octree_model.specs.Voxels.{VoxelValue}
use Rattle.occupancy_grid.specs.Grids.{GridValue}
use Rattle.occupancy_grid.specs.Pages.{page_of}
use Rattle.occupancy_grid.proofs.NumberSets.{ascending-ascending}
use Rattle.voxel_sampler.specs.Nears.{cells_of}
use Rattle.voxel_sampler.specs.Ready.{ReadyValue}
use Rattle.voxel_sampler.specs.Runs.{voxel_cells}
use Rattle.voxel_sampler.proofs.Readiness.{one_cell_more, page_of_run}
use Rattle.voxel_sampler.proofs.sampling.merge.Goals as goal

pub set-requires-clause-page : goal.set-requires-clause-page
set-requires-clause-page c =
    let run_is : c.deref-voxel-items.result.now ≡ c.args.ready.run = c.deref-voxel-items.ensures.value ∙ ap (λ (r : ReadyValue). r.run) c.ready.view_is in
    let l : c.loop-voxel.voxel-index < length c.args.ready.run = omega (arith, ap length run_is) in
    let cell : c.voxel.inside.cell ≡ c.voxel-item.result.cell = ap (λ (v : VoxelValue). v.cell) c.voxel.view_is in
    ap (λ (g : GridValue). has (page_of c.voxel.inside.cell) g.pages) c.loop-voxel.invariant ∙ ap (λ z. has (page_of z) c.args.grid.now.pages) cell
    ∙ page_of_run c.args.grid.now c.args.best.now c.args.ready c.loop-voxel.voxel-index c.voxel-item.result c.requires l
    (c.voxel-item.is ∙ ap (λ (vs : List VoxelValue). get_or vs c.loop-voxel.voxel-index c.voxel-item.result) run_is)

pub loop-voxel-preserved : goal.loop-voxel-preserved
loop-voxel-preserved c =
    let cell : c.voxel.inside.cell ≡ c.voxel-item.result.cell = ap (λ (v : VoxelValue). v.cell) c.voxel.view_is in
    one_cell_more c.args.grid.now c.loop-voxel.grid c.set.new.self c.deref-voxel-items.result.now c.loop-voxel.voxel-index c.voxel-item.result (omega arith) c.voxel-item.is c.loop-voxel.invariant
    (c.set.ensures.set ∙ ap (λ (z : ℕ). record c.loop-voxel.grid { cells = with_number z c.loop-voxel.grid.cells }) cell)

pub replace-requires : goal.replace-requires
replace-requires c =
    let e = ap cells_of (ap (λ (r : ReadyValue). r.nears) c.ready.view_is) ∙ c.requires.more in
    ap ascending e ∙ ascending-ascending (c.args.grid.now.cells ++ voxel_cells c.args.ready.run) ∙ sym e
