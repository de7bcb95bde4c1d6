use Rattle.std.proofs.Common.{◌≡◌, true, sym, subst}
use Rattle.list_machine.specs.Facts.{IsAt, is_shut}
use Rattle.list_machine.specs.declared.views.Fact.TheVariants.{Closed, Empty}
use Rattle.list_machine.specs.declared.views.Leaf.{Leaf}
use Rattle.list_table.specs.Ledgers.{Knows}
use Rattle.list_table.specs.Ruled.{ledger_of}
use Rattle.list_table.proofs.Knowing.{closed_shut, empty_shut}
use Rattle.list_table.proofs.seats.OwnerSeat.late_lists_are_shut.Goals as goal

pub returns-clause-closed : goal.returns-clause-closed
returns-clause-closed c l q = let z = c.self.inside.size.value in
    subst (λ v. (a : Leaf) × IsAt v.ledger.owner.book.leaves l a × (is_shut a.stage ≡ true)) c.self.view_is
    (closed_shut z.lists z.chunks (ledger_of c.self.inside.seat.me.0) c.self.invariant.possible l (subst (λ v. Knows v.ledger.owner.facts (Closed l)) (sym c.self.view_is) q))

pub returns-clause-empty : goal.returns-clause-empty
returns-clause-empty c l d k q = let z = c.self.inside.size.value in
    subst (λ v. (a : Leaf) × IsAt v.ledger.owner.book.leaves l a × (is_shut a.stage ≡ true)) c.self.view_is
    (empty_shut z.lists z.chunks (ledger_of c.self.inside.seat.me.0) c.self.invariant.possible l d k (subst (λ v. Knows v.ledger.owner.facts (Empty l d k)) (sym c.self.view_is) q))
