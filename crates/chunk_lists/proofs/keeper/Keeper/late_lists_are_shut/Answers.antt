use Rattle.std.proofs.Common.{◌≡◌, sym, subst}
use Rattle.list_machine.specs.declared.views.Fact.TheVariants.{Closed, Empty}
use Rattle.list_words.specs.Store.{row}
use Rattle.list_words.specs.declared.leaf_lists.Phase.TheVariants.{Shut}
use Rattle.list_table.specs.Ledgers.{Knows}
use Rattle.chunk_lists.specs.Keepers.{store_of}
use Rattle.chunk_lists.proofs.Knowing.{shut_then}
use Rattle.chunk_lists.proofs.keeper.Keeper.late_lists_are_shut.Goals as goal

pub returns-clause-closed : goal.returns-clause-closed
returns-clause-closed c l q =
    let i = c.self.inside in let g = i.seat.ledger in let b = i.book in let t = c.self.invariant.tied in let n = i.lists.value.lists in let m = i.lists.value.chunks in
    let y = c.late_lists_are_shut.ensures.closed l (subst (λ v. Knows v.ledger.owner.facts (Closed l)) (sym c.self.view_is) q) in
    subst (λ k. (row (store_of k) l).phase ≡ Shut) c.self.view_is (shut_then n m g b t l y.0 y.1 y.2)

pub returns-clause-empty : goal.returns-clause-empty
returns-clause-empty c l d k q =
    let i = c.self.inside in let g = i.seat.ledger in let b = i.book in let t = c.self.invariant.tied in let n = i.lists.value.lists in let m = i.lists.value.chunks in
    let y = c.late_lists_are_shut.ensures.empty l d k (subst (λ v. Knows v.ledger.owner.facts (Empty l d k)) (sym c.self.view_is) q) in
    subst (λ v. (row (store_of v) l).phase ≡ Shut) c.self.view_is (shut_then n m g b t l y.0 y.1 y.2)
