use Rattle.std.proofs.Common.{◌≡◌, ◌<◌, ◌^◌, take}
use Rattle.std.specs.List.{All}
use Rattle.voxel_sampler.specs.Nears.{cells_of}
use Rattle.voxel_sampler.proofs.sampling.cell_numbers.Given as goal

abbrev pub invariant-loop-near : goal.invariant-loop-near
invariant-loop-near l = record {
  cells : l.cells.items ≡ cells_of (take l.near-index l.nears);
  below : All (λ z. z < 2 ^ 21) l.cells.items;
}
