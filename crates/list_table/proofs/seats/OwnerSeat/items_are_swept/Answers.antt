use Rattle.std.proofs.Common.{sym, subst}
use Rattle.list_machine.specs.Facts.{IsAt}
use Rattle.list_machine.specs.declared.views.Fact.TheVariants.{Item}
use Rattle.list_table.specs.Ledgers.{Knows}
use Rattle.list_table.specs.Ruled.{ledger_of}
use Rattle.list_table.proofs.Knowing.{swept_place}
use Rattle.list_table.proofs.seats.OwnerSeat.items_are_swept.Goals as goal

pub returns : goal.returns
returns c l d k x p f m a item leaf shut = let z = c.self.inside.size.value in
    swept_place z.lists z.chunks (ledger_of c.self.inside.seat.me.0) c.self.invariant.possible l d k x p f m a
    (subst (λ v. Knows v.ledger.owner.facts (Item l d k x)) (sym c.self.view_is) item)
    (subst (λ v. IsAt v.ledger.owner.book.leaves l a) (sym c.self.view_is) leaf) shut
