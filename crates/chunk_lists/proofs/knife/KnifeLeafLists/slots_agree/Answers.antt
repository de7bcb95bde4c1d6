use Rattle.std.proofs.Common.{◌≡◌, ◌<◌, length, sym, subst, Contains}
use Rattle.list_machine.specs.declared.views.Fact.TheVariants.{Item}
use Rattle.list_words.specs.Store.{IsFoundAt, StandOnce, chunks_of, row}
use Rattle.list_words.specs.declared.leaf_lists.Phase.TheVariants.{Shut}
use Rattle.list_table.specs.Ledgers.{Knows}
use Rattle.chunk_lists.specs.Keepers.{ShownIn, claims_of}
use Rattle.chunk_lists.specs.Knives.{lists_of}
use Rattle.chunk_lists.proofs.knife.KnifeLeafLists.slots_agree.Goals as goal

pub returns-clause-agree : goal.returns-clause-agree
returns-clause-agree c l d k y z q also =
    c.known_slots_agree.ensures l d k y z (subst (λ v. ShownIn v.keeper l d k y) (sym c.self.view_is) q) (subst (λ v. ShownIn v.keeper l d k z) (sym c.self.view_is) also)

pub returns-clause-known : goal.returns-clause-known
returns-clause-known c l d x = (λ z. z, λ z. z)

pub returns-clause-known_chunks : goal.returns-clause-known_chunks
returns-clause-known_chunks c l d k x q =
    let z = c.known_items_have_chunks.ensures l d k x (subst (λ v. Knows v.keeper.ledger.owner.facts (Item l d k x)) (sym c.self.view_is) q) in
    (subst (λ v. Contains (chunks_of (row (lists_of v) l)) d) c.self.view_is z.0, z.1)

pub returns-clause-once : goal.returns-clause-once
returns-clause-once c = subst (λ v. StandOnce (lists_of v)) c.self.view_is c.chunks_stand_once.ensures

pub returns-clause-claimed : goal.returns-clause-claimed
returns-clause-claimed c l shut = subst (λ v. length (row (lists_of v) l).marked ≡ claims_of v.keeper l) c.self.view_is
    (c.known_items_are_found.ensures.claims l (subst (λ v. (row (lists_of v) l).phase ≡ Shut) (sym c.self.view_is) shut))

pub returns-clause-found : goal.returns-clause-found
returns-clause-found c l d k x shut q = subst (λ v. IsFoundAt (row (lists_of v) l) d k x) c.self.view_is
    (c.known_items_are_found.ensures.found l d k x (subst (λ v. (row (lists_of v) l).phase ≡ Shut) (sym c.self.view_is) shut) (subst (λ v. Knows v.keeper.ledger.owner.facts (Item l d k x)) (sym c.self.view_is) q))
