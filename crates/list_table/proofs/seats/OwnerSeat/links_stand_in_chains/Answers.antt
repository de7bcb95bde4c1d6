use Rattle.std.proofs.Common.{sym, subst}
use Rattle.list_machine.specs.Facts.{IsAt, Stands}
use Rattle.list_machine.specs.declared.views.Fact.TheVariants.{Link}
use Rattle.list_machine.specs.declared.views.Leaf.{Leaf}
use Rattle.list_table.specs.Ledgers.{Knows}
use Rattle.list_table.specs.Ruled.{ledger_of}
use Rattle.list_table.proofs.Knowing.{link_stands}
use Rattle.list_table.proofs.seats.OwnerSeat.links_stand_in_chains.Goals as goal

pub returns : goal.returns
returns c l r d from q = let z = c.self.inside.size.value in
    subst (λ v. (a : Leaf) × IsAt v.ledger.owner.book.leaves l a × Stands a.stage × IsAt a.claimed r d) c.self.view_is
    (link_stands z.lists z.chunks (ledger_of c.self.inside.seat.me.0) c.self.invariant.possible l r d from (subst (λ v. Knows v.ledger.owner.facts (Link l from r d)) (sym c.self.view_is) q))
