use Rattle.std.proofs.Common.{◌≡◌, ◌++◌, List, ℕ, map, ap, sym, subst, ◌∙◌}
use Rattle.std.specs.List.{filter}
use Rattle.std.proofs.lemmas.Result.{err_from_is_err_and}
use Rattle.cube_math.specs.Cubes.{cell}
use Rattle.octree_model.specs.Numbers.{ascending}
use Rattle.occupancy_grid.specs.Grids.{AddsSomePages}
use Rattle.occupancy_grid.specs.Pages.{page_of}
use Rattle.occupancy_grid.proofs.NumberSets.{ascending-ascending}
use Rattle.voxel_sampler.specs.Nears.{NearValue, cells_of, least_nears, near_of, voxel_of}
use Rattle.voxel_sampler.specs.Order.{IsAscending}
use Rattle.voxel_sampler.specs.Updates.{is_change}
use Rattle.voxel_sampler.proofs.Keys.{cells_of-least_nears}
use Rattle.voxel_sampler.proofs.Readiness.{no_pages, some_of_points, pages_of_points, cells_are, is_ready}
use Rattle.voxel_sampler.proofs.RunLaws.{ready_nears, ready_run}
use Rattle.voxel_sampler.proofs.sampling.prepare.Goals as goal

pub returns-in_err-lowest-clause-refused : goal.returns-in_err-lowest-clause-refused
returns-in_err-lowest-clause-refused c =
    let p = err_from_is_err_and c.from_residual.result c.from_residual.ensures.1 in
    rw p.1 (no_pages c.args.grid.now (map (cell c.args.cube.now) c.args.points.now))

pub updated-requires-clause-lowest : goal.updated-requires-clause-lowest
updated-requires-clause-lowest c =
    let e = ap cells_of (c.deref.ensures.value ∙ c.in_ok-lowest.ensures) ∙ cells_of-least_nears (map (near_of c.args.cube.now) c.args.points.now) in
    ap ascending e ∙ ascending-ascending (cells_of (map (near_of c.args.cube.now) c.args.points.now)) ∙ sym e

pub returns-in_err-ready-clause-refused : goal.returns-in_err-ready-clause-refused
returns-in_err-ready-clause-refused c =
    let p = err_from_is_err_and c.from_residual-in_err-ready.result c.from_residual-in_err-ready.ensures.1 in
    rw p.1 (no_pages c.args.grid.now (map (cell c.args.cube.now) c.args.points.now))

pub returns-in_err-cells-clause-refused : goal.returns-in_err-cells-clause-refused
returns-in_err-cells-clause-refused c =
    let p = err_from_is_err_and c.from_residual-in_err-cells.result c.from_residual-in_err-cells.ensures.1 in
    rw p.1 (no_pages c.args.grid.now (map (cell c.args.cube.now) c.args.points.now))

pub returns-in_err-reserve-clause-refused : goal.returns-in_err-reserve-clause-refused
returns-in_err-reserve-clause-refused c =
    let p = err_from_is_err_and c.from_residual-in_err-reserve.result c.from_residual-in_err-reserve.ensures.1 in
    let zs : c.deref-3.result.now ≡ ascending (map (cell c.args.cube.now) c.args.points.now) =
    cells_are c.args.cube.now c.args.points.now c.in_ok-lowest.lowest.items c.deref-2.result.now c.in_ok-cells.cells.items c.deref-3.result.now c.in_ok-lowest.ensures c.deref-2.ensures.value c.in_ok-cells.ensures.cells c.deref-3.ensures.value in
    rw p.1 (some_of_points c.args.grid.now c.reserve.new.self (map (cell c.args.cube.now) c.args.points.now) (subst (λ (ks : List ℕ). AddsSomePages c.args.grid.now c.reserve.new.self ks) zs c.in_err-reserve.ensures.refused))

pub returns-clause-nears : goal.returns-clause-nears
returns-clause-nears c = ready_nears c.args.best.now c.list.result.now c.in_ok-lowest.lowest.items c.deref.result.now c.args.cube.now c.args.points.now c.in_ok-ready.ready.nears c.list.ensures.list c.deref.ensures.value c.in_ok-lowest.ensures c.in_ok-ready.ensures.nears

pub returns-clause-run : goal.returns-clause-run
returns-clause-run c = ready_run c.args.best.now c.list.result.now c.in_ok-lowest.lowest.items c.deref.result.now c.args.cube.now c.args.points.now c.in_ok-ready.ready.run c.list.ensures.list c.deref.ensures.value c.in_ok-lowest.ensures c.in_ok-ready.ensures.run

pub returns-clause-ready : goal.returns-clause-ready
returns-clause-ready c =
    let e = ap cells_of (c.deref.ensures.value ∙ c.in_ok-lowest.ensures) ∙ cells_of-least_nears (map (near_of c.args.cube.now) c.args.points.now) in
    let order : IsAscending (cells_of c.deref.result.now) = ap ascending e ∙ ascending-ascending (cells_of (map (near_of c.args.cube.now) c.args.points.now)) ∙ sym e in
    is_ready c.args.grid.now c.reserve.new.self c.args.best.now c.deref.result.now c.in_ok-ready.ready c.requires.cells c.list.ensures.ascending order
    (c.in_ok-ready.ensures.nears ∙ ap (λ (ms : List NearValue). least_nears (ms ++ c.deref.result.now)) c.list.ensures.list)
    (c.in_ok-ready.ensures.run ∙ ap (λ (ms : List NearValue). map voxel_of (filter (is_change ms) c.deref.result.now)) c.list.ensures.list)
    c.in_ok-reserve.ensures.cells
    (c.in_ok-reserve.ensures.pages ∙ ap (λ (zs : List ℕ). ascending (c.args.grid.now.pages ++ map page_of zs)) (c.deref-3.ensures.value ∙ c.in_ok-cells.ensures.cells ∙ ap cells_of (c.deref-2.ensures.value ∙ sym c.deref.ensures.value)))

pub returns-clause-pages : goal.returns-clause-pages
returns-clause-pages c =
    let zs : c.deref-3.result.now ≡ ascending (map (cell c.args.cube.now) c.args.points.now) =
    cells_are c.args.cube.now c.args.points.now c.in_ok-lowest.lowest.items c.deref-2.result.now c.in_ok-cells.cells.items c.deref-3.result.now c.in_ok-lowest.ensures c.deref-2.ensures.value c.in_ok-cells.ensures.cells c.deref-3.ensures.value in
    c.in_ok-reserve.ensures.pages ∙ ap (λ (ks : List ℕ). ascending (c.args.grid.now.pages ++ map page_of ks)) zs ∙ pages_of_points c.args.grid.now.pages (map (cell c.args.cube.now) c.args.points.now)
