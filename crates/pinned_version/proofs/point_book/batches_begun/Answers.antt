use Rattle.std.proofs.Common.{nat_le, rules, of_calls}
use Rattle.std.proofs.lemmas.Fn.{always_returns_same}
use Rattle.std.proofs.lemmas.List.Sorted.{IsPartitionedBy-leb}
use Rattle.pinned_version.specs.Books.{BatchItems}
use Rattle.pinned_version.proofs.BookLaws.{begun_before, begun_behind, firsts_rise}
use Rattle.pinned_version.proofs.point_book.batches_begun.Goals as goal

pub returns-clause-before : goal.returns-clause-before
returns-clause-before c =
    let parted = c.partition_point.ensures.partitioned (λ (b : BatchItems). nat_le b.first c.args.item)
    (always_returns_same _ _ _ (λ a r f k. search (rules, of_calls)))
    (IsPartitionedBy-leb (λ (b : BatchItems). b.first) c.args.batches.now c.args.item (firsts_rise c.args.batches.now c.requires)) in
    begun_before c.args.batches.now c.partition_point.result c.args.item parted.0

pub returns-clause-behind : goal.returns-clause-behind
returns-clause-behind c =
    let parted = c.partition_point.ensures.partitioned (λ (b : BatchItems). nat_le b.first c.args.item)
    (always_returns_same _ _ _ (λ a r f k. search (rules, of_calls)))
    (IsPartitionedBy-leb (λ (b : BatchItems). b.first) c.args.batches.now c.args.item (firsts_rise c.args.batches.now c.requires)) in
    begun_behind c.args.batches.now c.partition_point.result c.args.item parted.1
