use Rattle.std.proofs.Common.{◌≡◌, ◌∙◌, nat_lt, rules, of_calls, List, ℕ, sym, subst, arith, ap}
use Rattle.std.specs.List.Sorted.{IsNonDecreasingBy}
use Rattle.std.proofs.lemmas.Fn.{always_returns_same}
use Rattle.std.proofs.lemmas.List.Sorted.{IsPartitionedBy-ltb}
use Rattle.leaf_items.specs.Items.{before, items_of}
use Rattle.leaf_items.proofs.ItemLaws.{count_split, items_fall_never}
use Rattle.leaf_items.proofs.items.LeafItems.before.Goals as goal

pub returns : goal.returns
returns c =
    let items : List ℕ = c.items.result.now in
    let are : items ≡ items_of c.args.self.now c.args.list = c.items.ensures.items in
    let parted = c.partition_point-count.ensures.partitioned (λ (item : ℕ). nat_lt item c.args.bound)
    (always_returns_same _ _ _ (λ a r f k. search (rules, of_calls)))
    (IsPartitionedBy-ltb (λ (item : ℕ). item) items c.args.bound
    (subst (IsNonDecreasingBy (λ (item : ℕ). item)) (sym are) (items_fall_never c.args.self.now.leaf c.args.list))) in
    sym (count_split (λ (item : ℕ). nat_lt item c.args.bound) items c.partition_point-count.result c.partition_point-count.ensures.bound
    (λ k d low. parted.0 k d (omega arith) low) (λ k d high low. parted.1 k d high low))
    ∙ ap (λ (s : List ℕ). before s c.args.bound) are
