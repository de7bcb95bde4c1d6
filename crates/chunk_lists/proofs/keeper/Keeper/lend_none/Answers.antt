use Rattle.std.proofs.Common.{◌≡◌, sym, subst}
use Rattle.list_machine.specs.Steps.{open_facts}
use Rattle.list_machine.specs.declared.views.Fact.TheVariants.{Item}
use Rattle.list_words.specs.Store.{row}
use Rattle.list_words.specs.declared.leaf_lists.Phase.TheVariants.{Open}
use Rattle.list_table.specs.Ledgers.{Knows}
use Rattle.chunk_lists.specs.Keepers.{store_of}
use Rattle.chunk_lists.proofs.Knowing.{known_when_open}
use Rattle.chunk_lists.proofs.keeper.Keeper.lend_none.Goals as goal

pub returns-clause-open : goal.returns-clause-open
returns-clause-open c l d k x unshut q =
    let i = c.self.inside in
    subst (λ v. Knows v.guest.facts (Item l d k x)) (sym c.lend.ensures.guest)
    (subst (λ o. Knows (open_facts o.ledger.owner.book.leaves o.ledger.owner.facts) (Item l d k x)) c.self.view_is
    (known_when_open i.lists.value.lists i.lists.value.chunks i.seat.ledger i.book c.self.invariant.tied l d k x
    (subst (λ o. (row (store_of o) l).phase ≡ Open) (sym c.self.view_is) unshut)
    (subst (λ o. Knows o.ledger.owner.facts (Item l d k x)) (sym c.self.view_is) q)))
