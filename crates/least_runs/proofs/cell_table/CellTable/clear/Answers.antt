use Rattle.std.proofs.Common.{ap, ◌∙◌}
use Rattle.voxel_sampler.specs.Nears.{least_nears}
use Rattle.least_runs.proofs.TableLaws.{no_nears}
use Rattle.least_runs.proofs.cell_table.CellTable.clear.Goals as goal

pub returns : goal.returns
returns c = ap least_nears c.clear.ensures.items ∙ no_nears
