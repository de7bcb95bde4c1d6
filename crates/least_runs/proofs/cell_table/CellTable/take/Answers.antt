use Rattle.std.proofs.Common.{◌∙◌, map}
use Rattle.voxel_sampler.specs.Nears.{near_at, near_key}
use Rattle.least_runs.specs.Tables.{entry_at}
use Rattle.least_runs.proofs.TableLaws.{all_there, entries_back}
use Rattle.least_runs.proofs.cell_table.CellTable.take.Goals as goal

pub entries_of-requires-clause-each : goal.entries_of-requires-clause-each
entries_of-requires-clause-each c =
    all_there c.self.inside.cells c.deref.result.now c.self.inside.places.items c.deref-2.result.now c.self.inside.nears.items c.deref-3.result.now
    (c.deref.ensures.value ∙ c.in_ok-cells.ensures) c.deref-2.ensures.value c.deref-3.ensures.value c.self.invariant

pub returns-clause-keys : goal.returns-clause-keys
returns-clause-keys c =
    c.in_ok-keys.ensures
    ∙ (λ i. map (λ z. near_at z (near_key (entry_at (c.deref-2.ensures.value i) (c.deref-3.ensures.value i) z))) ((c.deref.ensures.value ∙ c.in_ok-cells.ensures) i))
    ∙ entries_back c.self.inside.cells c.self.inside.places.items c.self.inside.nears.items c.self.invariant ∙ c.self.view_is
