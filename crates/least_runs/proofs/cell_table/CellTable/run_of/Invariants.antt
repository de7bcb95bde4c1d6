use Rattle.std.proofs.Common.{◌≡◌, map, take}
use Rattle.voxel_sampler.specs.Nears.{least_nears, near_of}
use Rattle.least_runs.proofs.cell_table.CellTable.run_of.Given as goal

abbrev pub invariant-loop-p : goal.invariant-loop-p
invariant-loop-p l = l.self ≡ least_nears (map (near_of l.cube) (take l.p-index l.points))
