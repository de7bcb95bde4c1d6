use Rattle.std.proofs.Common.{◌≤◌, All, take}
use Rattle.pinned_version.specs.Books.{BatchItems, end_of}
use Rattle.pinned_version.proofs.tests.end_by.Given as goal

abbrev pub invariant-loop-batch : goal.invariant-loop-batch
invariant-loop-batch l = All (λ (b : BatchItems). end_of b ≤ l.number) (take l.batch-index l.batches)
