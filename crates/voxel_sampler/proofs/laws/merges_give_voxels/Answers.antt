use Rattle.voxel_sampler.proofs.RunLaws.{last_voxels, last_nears, last_cells}
use Rattle.voxel_sampler.proofs.laws.merges_give_voxels.Goals as goal

pub returns : goal.returns
returns c = record {
  voxels = λ batches. last_voxels c.args.cube.now batches;
  nears = λ batches. last_nears c.args.cube.now batches;
  cells = λ batches. last_cells c.args.cube.now batches;
}
