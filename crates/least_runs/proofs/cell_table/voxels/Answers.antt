use Rattle.std.proofs.Common.{◌<◌, ◌^◌, ap, arith}
use Rattle.voxel_sampler.specs.Nears.{NearValue}
use Rattle.least_runs.proofs.TableLaws.{one_voxel, one_small}
use Rattle.least_runs.proofs.cell_table.voxels.Goals as goal

pub loop-near-preserved : goal.loop-near-preserved
loop-near-preserved c = record {
  voxels = one_voxel c.args.nears.now c.loop-near.voxels.items c.push.new.self.items c.loop-near.near-index c.near-item.result c.voxel.result c.loop-near-test.true c.near-item.is c.voxel.ensures c.loop-near.invariant.voxels c.in_ok-push.ensures.items;
  small = one_small c.args.nears.now c.loop-near.near-index c.near-item.result c.loop-near-test.true c.near-item.is (omega (arith, c.near.invariant, ap (λ (x : NearValue). x.rgb) c.near.view_is)) c.loop-near.invariant.small;
}
