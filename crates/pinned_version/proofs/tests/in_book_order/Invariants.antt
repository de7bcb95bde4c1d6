use Rattle.std.proofs.Common.{◌≤◌, AllPairs, take}
use Rattle.pinned_version.specs.Books.{BatchItems, end_of}
use Rattle.pinned_version.proofs.tests.in_book_order.Given as goal

abbrev pub invariant-loop-at : goal.invariant-loop-at
invariant-loop-at l = AllPairs (λ (a b : BatchItems). end_of a ≤ b.first) (take l.at l.batches)
