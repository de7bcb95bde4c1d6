use Rattle.least_runs.proofs.RunLaws.{runs_voxels, joined_nears}
use Rattle.least_runs.proofs.laws.runs_show_voxels.Goals as goal

pub returns : goal.returns
returns c = record {
  voxels = λ parts points same. runs_voxels c.args.cube.now parts points same;
  joined = λ parts. joined_nears c.args.cube.now parts;
}
