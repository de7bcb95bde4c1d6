use Rattle.std.proofs.Common.{sym, subst}
use Rattle.chunk_lists.specs.Keepers.{ShownIn}
use Rattle.chunk_lists.proofs.Knowing.{slots_one}
use Rattle.chunk_lists.proofs.keeper.Keeper.known_slots_agree.Goals as goal

pub returns : goal.returns
returns c l d k y z q also =
    slots_one c.self.inside.seat.ledger (λ o w e j u v p r. c.facts_agree.ensures.one o w e j u v p r) (λ o w e j u p r. c.facts_agree.ensures.none o w e j u p r) l d k y z
    (subst (λ v. ShownIn v l d k y) (sym c.self.view_is) q) (subst (λ v. ShownIn v l d k z) (sym c.self.view_is) also)
