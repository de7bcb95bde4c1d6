use Rattle.std.proofs.Common.{◌≡◌, length, sym, subst}
use Rattle.list_machine.specs.declared.views.Fact.TheVariants.{Item}
use Rattle.list_words.specs.Store.{IsFoundAt, row}
use Rattle.list_words.specs.declared.leaf_lists.Phase.TheVariants.{Shut}
use Rattle.list_table.specs.Ledgers.{Knows}
use Rattle.chunk_lists.specs.Keepers.{claims_of, store_of}
use Rattle.chunk_lists.proofs.Knowing.{claims_now, found_now}
use Rattle.chunk_lists.proofs.keeper.Keeper.known_items_are_found.Goals as goal

pub returns-clause-claims : goal.returns-clause-claims
returns-clause-claims c l shut =
    let i = c.self.inside in let g = i.seat.ledger in let b = i.book in let t = c.self.invariant.tied in let n = i.lists.value.lists in let m = i.lists.value.chunks in
    subst (λ k. length (row (store_of k) l).marked ≡ claims_of k l) c.self.view_is
    (claims_now n m g b t c.notes_are_kept.ensures l (subst (λ k. (row (store_of k) l).phase ≡ Shut) (sym c.self.view_is) shut))

pub returns-clause-found : goal.returns-clause-found
returns-clause-found c l d k x shut q =
    let i = c.self.inside in let g = i.seat.ledger in let b = i.book in let t = c.self.invariant.tied in let n = i.lists.value.lists in let m = i.lists.value.chunks in
    let z = subst (λ v. Knows v.ledger.owner.facts (Item l d k x)) (sym c.self.view_is) q in
    let y = c.items_stand_in_chunks.ensures l d k x z in
    subst (λ v. IsFoundAt (row (store_of v) l) d k x) c.self.view_is
    (found_now n m g b t c.notes_are_kept.ensures (λ o w e j u v p r. c.facts_agree.ensures.one o w e j u v p r) (λ o w e j u p r. c.facts_agree.ensures.none o w e j u p r) c.items_are_swept.ensures l d k x y.0 z y.1 y.2
    (subst (λ v. (row (store_of v) l).phase ≡ Shut) (sym c.self.view_is) shut))
