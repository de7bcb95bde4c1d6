use Rattle.std.proofs.Common.{sym, ◌∙◌, map, take, arith}
use Rattle.voxel_sampler.specs.Nears.{near_of}
use Rattle.least_runs.proofs.TableLaws.{no_nears, one_point, all_points, cells_ascend}
use Rattle.least_runs.proofs.cell_table.CellTable.run_of.Goals as goal

pub loop-p-init : goal.loop-p-init
loop-p-init c = c.begin.ensures ∙ sym no_nears

pub loop-p-preserved : goal.loop-p-preserved
loop-p-preserved c = one_point c.args.cube.now c.args.points.now c.loop-p.self c.put.new.self c.loop-p.p-index c.p-item.result c.of.result c.loop-p-test.true c.p-item.is c.of.ensures.value c.loop-p.invariant c.in_ok-put.ensures

pub new-requires : goal.new-requires
new-requires c = cells_ascend _ (map (near_of c.args.cube.now) (take c.loop-p.p-index c.args.points.now)) (c.in_ok-take.ensures.keys ∙ c.loop-p.invariant)

pub returns-clause-run : goal.returns-clause-run
returns-clause-run c = c.new.ensures ∙ all_points c.args.cube.now c.args.points.now _ c.loop-p.p-index (omega (arith, c.loop-p-test.false)) (c.in_ok-take.ensures.keys ∙ c.loop-p.invariant)
