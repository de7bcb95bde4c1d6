use Rattle.std.proofs.Common.{List, map, rules, subst, ap, ◌∙◌}
use Rattle.std.specs.List.Sorted.{IsPermutation}
use Rattle.std.proofs.lemmas.List.Sorted.{IsNonDecreasingBy-from_sort_by_key}
use Rattle.std.proofs.lemmas.List.{take_all}
use Rattle.list_filers.specs.declared.cursors.Cursor.{Cursor}
use Rattle.list_filers.specs.Cursors.{fresh_cursor}
use Rattle.list_filers.proofs.Starts.{are_sorted}
use Rattle.list_filers.proofs.cursors.start.Goals as goal

pub returns-clause-sorted : goal.returns-clause-sorted
returns-clause-sorted c =
    let same : IsPermutation (map fresh_cursor c.args.grants.now) c.sort_unstable_by_key.new.self.items =
    subst (λ (xs : List Cursor). IsPermutation xs c.sort_unstable_by_key.new.self.items) (c.loop-grant.invariant.0 ∙ ap (λ gs. map fresh_cursor gs) (take_all c.loop-grant.grant-index c.args.grants.now c.loop-grant-test.false)) c.sort_unstable_by_key.ensures.permutation in
    are_sorted c.args.grants.now c.sort_unstable_by_key.new.self.items c.requires.apart same
    (IsNonDecreasingBy-from_sort_by_key (λ a. a.list) _ c.sort_unstable_by_key.ensures.sorted (λ a r q k. search rules))
