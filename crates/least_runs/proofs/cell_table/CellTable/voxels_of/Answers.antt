use Rattle.std.proofs.Common.{List, subst, sym, ◌∙◌}
use Rattle.voxel_sampler.specs.Nears.{NearValue, cells_of}
use Rattle.voxel_sampler.specs.Order.{IsAscending}
use Rattle.least_runs.proofs.RunLaws.{lone_run}
use Rattle.least_runs.proofs.cell_table.CellTable.voxels_of.Goals as goal

pub returns-then-runs-eq1 : goal.returns-then-runs-eq1
returns-then-runs-eq1 c =
    lone_run (λ run. run.value) c.args.runs.now c.index-runs-0.result c.nears.result.now c.in_ok-found.found.items c.if-runs-eq1.true c.index-runs-0.is (c.nears.ensures.list ∙ c.deref.ensures)
    (subst (λ (ns : List NearValue). IsAscending (cells_of ns)) (sym c.nears.ensures.list) c.nears.ensures.ascending) c.in_ok-found.ensures.small c.in_ok-found.ensures.voxels
