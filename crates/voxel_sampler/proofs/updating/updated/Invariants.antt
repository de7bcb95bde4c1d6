use Rattle.std.proofs.Common.{◌+◌, ◌-◌, ◌≤◌, length}
use Rattle.voxel_sampler.proofs.Merging.{IsMerged}
use Rattle.voxel_sampler.proofs.updating.updated.Given as goal

abbrev pub invariant-loop-old : goal.invariant-loop-old
invariant-loop-old l = record {
  old_within : l.old ≤ length l.best;
  new_within : l.new ≤ length l.lowest;
  merged : IsMerged l.best l.lowest l.old l.new l.ready.nears l.ready.run;
}

abbrev pub decreases-loop-old : goal.decreases-loop-old
decreases-loop-old l = (length l.best - l.old) + (length l.lowest - l.new)

abbrev pub invariant-loop-near : goal.invariant-loop-near
invariant-loop-near l = IsMerged l.best l.lowest (l.old + l.near-index) l.new l.ready.nears l.ready.run

abbrev pub invariant-loop-near-2 : goal.invariant-loop-near-2
invariant-loop-near-2 l = IsMerged l.best l.lowest (length l.best) (l.new + l.near-index) l.ready.nears l.ready.run
