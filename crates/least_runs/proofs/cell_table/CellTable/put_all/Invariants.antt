use Rattle.std.proofs.Common.{◌≡◌, ◌++◌, take}
use Rattle.voxel_sampler.specs.Nears.{least_nears}
use Rattle.least_runs.proofs.cell_table.CellTable.put_all.Given as goal

abbrev pub invariant-loop-near : goal.invariant-loop-near
invariant-loop-near l = l.self ≡ least_nears (l.fn.self ++ take l.near-index l.nears)
