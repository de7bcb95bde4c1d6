use Rattle.std.proofs.Common.{ℕ, Option, sym, subst}
use Rattle.list_words.specs.Store.{Stood}
use Rattle.list_words.proofs.MarkLaws.{found_stands, marks_by}
use Rattle.list_table.specs.Ledgers.{Knows, shown}
use Rattle.chunk_lists.specs.Keepers.{KnownIn, ShownIn}
use Rattle.list_machine.specs.declared.views.Fact.TheVariants.{Item}
use Rattle.list_table.specs.Ledgers.{shown}
use Rattle.chunk_lists.specs.Keepers.{ShownIn}
use Rattle.chunk_lists.proofs.knife.KnifeLeafLists.shut_and_sweep.Goals as goal

pub returns-clause-marks : goal.returns-clause-marks
returns-clause-marks c =
    let k = c.shut_and_sweep.new.self in
    let l = c.args.list in
    marks_by (ShownIn k l) (Stood (KnownIn k l)) (λ d i y q x is. (i, subst (λ (z : Option ℕ). Knows k.ledger.owner.facts (shown l d i z)) is q)) _ _ c.shut_and_sweep.ensures.marks

pub returns-clause-stands : goal.returns-clause-stands
returns-clause-stands c = found_stands _ _ _ (returns-clause-marks c)

pub returns-clause-swept : goal.returns-clause-swept
returns-clause-swept c d x q = c.shut_and_sweep.ensures.swept d x (subst (λ k. KnownIn k.keeper c.args.list d x) (sym c.self.view_is) q)

pub returns-clause-known : goal.returns-clause-known
returns-clause-known c h d x q =
    let z = subst (λ k. KnownIn k.keeper h d x) (sym c.self.view_is) q in (z.0, c.shut_and_sweep.ensures.known (Item h d z.0 x) z.1)

pub returns-clause-kept : goal.returns-clause-kept
returns-clause-kept c h d i y q = c.shut_and_sweep.ensures.known (shown h d i y) (subst (λ k. ShownIn k.keeper h d i y) (sym c.self.view_is) q)
