use Rattle.std.proofs.Common.{◌≡◌, length, arith, ap, sym, ◌∙◌}
use Rattle.std.proofs.lemmas.Bool.{eqb-true}
use Rattle.voxel_sampler.specs.Nears.{least_nears}
use Rattle.least_runs.proofs.TableLaws.{no_nears, none_left}
use Rattle.least_runs.proofs.cell_table.CellTable.begin.Goals as goal

pub returns-then-is_empty : goal.returns-then-is_empty
returns-then-is_empty c =
    let gone : length c.self.inside.nears.items ≡ 0 = omega (arith, eqb-true _ _ (sym c.is_empty.ensures ∙ c.if-is_empty.true), c.self.inside.nears.ok) in
    sym c.self.view_is ∙ ap least_nears (none_left c.self.inside.nears.items gone) ∙ no_nears
