use Rattle.std.proofs.Common.{◌≡◌, map, take}
use Rattle.voxel_sampler.specs.Nears.{near_at, near_key}
use Rattle.least_runs.specs.Tables.{entry_at}
use Rattle.least_runs.proofs.cell_table.entries_of.Given as goal

abbrev pub invariant-loop-cell : goal.invariant-loop-cell
invariant-loop-cell l = l.entries.items ≡ map (λ z. near_at z (near_key (entry_at l.places l.nears z))) (take l.cell-index l.cells)
