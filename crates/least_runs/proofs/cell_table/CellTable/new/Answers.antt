use Rattle.std.proofs.Common.{ap, ◌∙◌, arith}
use Rattle.voxel_sampler.specs.Nears.{least_nears}
use Rattle.least_runs.proofs.TableLaws.{no_nears, no_entries}
use Rattle.least_runs.proofs.cell_table.CellTable.new.Goals as goal

pub invariant_of-result : goal.invariant_of-result
invariant_of-result c = no_entries c.in_ok-new.field-0 c.in_ok-vec.field-0.items c.new-2.result.items c.in_ok-new.ensures c.new-2.ensures.items (omega (arith, c.in_ok-vec.ensures.len, c.in_ok-vec.field-0.ok))

pub returns : goal.returns
returns c = ap least_nears c.new-2.ensures.items ∙ no_nears
