use Rattle.voxel_sampler.proofs.RunLaws.{next_voxels, next_nears}
use Rattle.voxel_sampler.proofs.laws.merge_adds_voxels.Goals as goal

pub returns : goal.returns
returns c = record {
  voxels = λ points batch entries before. next_voxels c.args.cube.now points batch entries before;
  nears = λ points batch. next_nears c.args.cube.now points batch;
}
