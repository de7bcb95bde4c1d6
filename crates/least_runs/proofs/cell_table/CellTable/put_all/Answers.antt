use Rattle.least_runs.proofs.TableLaws.{none_put, one_put}
use Rattle.least_runs.proofs.cell_table.CellTable.put_all.Goals as goal

pub loop-near-init : goal.loop-near-init
loop-near-init c = none_put c.self.inside.nears.items c.args.self.now c.self.view_is

pub loop-near-preserved : goal.loop-near-preserved
loop-near-preserved c = one_put c.args.self.now c.args.nears.now c.loop-near.self c.put.new.self c.loop-near.near-index c.near-item.result c.loop-near-test.true c.near-item.is c.loop-near.invariant c.in_ok-put.ensures
