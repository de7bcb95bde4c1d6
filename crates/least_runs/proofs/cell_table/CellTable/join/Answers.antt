use Rattle.std.proofs.Common.{sym, ◌∙◌, map, take}
use Rattle.least_runs.specs.Runs.{entries}
use Rattle.least_runs.proofs.RunLaws.{none_joined, one_run}
use Rattle.least_runs.proofs.TableLaws.{cells_ascend}
use Rattle.least_runs.proofs.cell_table.CellTable.join.Goals as goal

pub loop-run-init : goal.loop-run-init
loop-run-init c = c.begin.ensures ∙ sym none_joined

pub loop-run-preserved : goal.loop-run-preserved
loop-run-preserved c =
    one_run (λ run. run.value) c.args.runs.now c.loop-run.self c.put_all.new.self c.nears.result.now c.loop-run.run-index c.run-item.result c.loop-run-test.true c.run-item.is (c.nears.ensures.list ∙ c.deref.ensures) c.loop-run.invariant c.in_ok-put_all.ensures

pub new-requires : goal.new-requires
new-requires c = cells_ascend _ (entries (map (λ run. run.value) (take c.loop-run.run-index c.args.runs.now))) (c.in_ok-take.ensures.keys ∙ c.loop-run.invariant)
