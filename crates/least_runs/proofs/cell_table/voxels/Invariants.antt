use Rattle.std.proofs.Common.{◌≡◌, ◌<◌, ◌^◌, map, take}
use Rattle.std.specs.List.{All}
use Rattle.voxel_sampler.specs.Nears.{voxel_of}
use Rattle.least_runs.proofs.cell_table.voxels.Given as goal

abbrev pub invariant-loop-near : goal.invariant-loop-near
invariant-loop-near l = record {
  voxels : l.voxels.items ≡ map voxel_of (take l.near-index l.nears);
  small : All (λ n. n.rgb < 2 ^ 24) (take l.near-index l.nears);
}
