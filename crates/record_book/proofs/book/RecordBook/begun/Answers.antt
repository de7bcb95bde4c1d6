use Rattle.std.proofs.Common.{◌≡◌, true, false, nat_le, length, rules, of_calls, List, sym, subst, ◌∙◌}
use Rattle.std.specs.List.{AllWithin}
use Rattle.std.specs.List.Sorted.{IsNonDecreasingBy}
use Rattle.std.proofs.lemmas.Fn.{always_returns_same}
use Rattle.std.proofs.lemmas.List.Sorted.{IsPartitionedBy-leb}
use Rattle.record_book.specs.KeptBatches.{KeptValue, kept_of}
use Rattle.record_book.proofs.SearchLaws.{begun_before, begun_behind, firsts_rise}
use Rattle.record_book.proofs.ViewLaws.{view_kept}
use Rattle.record_book.proofs.book.RecordBook.begun.Goals as goal

pub returns-clause-before : goal.returns-clause-before
returns-clause-before c =
    let kept : List KeptValue = kept_of c.args.self.now.events in
    let is : c.deref.result.now ≡ kept = c.deref.ensures.value ∙ view_kept c.self.inside _ c.self.invariant c.self.view_is in
    let parted = c.partition_point.ensures.partitioned (λ (b : KeptValue). nat_le b.first c.args.item)
    (always_returns_same _ _ _ (λ a r f k. search (rules, of_calls)))
    (IsPartitionedBy-leb (λ (b : KeptValue). b.first) c.deref.result.now c.args.item
    (subst (IsNonDecreasingBy (λ (b : KeptValue). b.first)) (sym is) (firsts_rise c.args.self.now.events))) in
    begun_before kept c.partition_point.result c.args.item
    (subst (λ (l : List KeptValue). AllWithin (λ (b : KeptValue). nat_le b.first c.args.item ≡ true) l 0 c.partition_point.result) is parted.0)

pub returns-clause-behind : goal.returns-clause-behind
returns-clause-behind c =
    let kept : List KeptValue = kept_of c.args.self.now.events in
    let is : c.deref.result.now ≡ kept = c.deref.ensures.value ∙ view_kept c.self.inside _ c.self.invariant c.self.view_is in
    let parted = c.partition_point.ensures.partitioned (λ (b : KeptValue). nat_le b.first c.args.item)
    (always_returns_same _ _ _ (λ a r f k. search (rules, of_calls)))
    (IsPartitionedBy-leb (λ (b : KeptValue). b.first) c.deref.result.now c.args.item
    (subst (IsNonDecreasingBy (λ (b : KeptValue). b.first)) (sym is) (firsts_rise c.args.self.now.events))) in
    begun_behind kept c.partition_point.result c.args.item
    (subst (λ (l : List KeptValue). AllWithin (λ (b : KeptValue). nat_le b.first c.args.item ≡ false) l c.partition_point.result (length l)) is parted.1)
