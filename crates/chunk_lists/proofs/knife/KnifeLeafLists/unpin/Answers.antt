use Rattle.std.proofs.Common.{sym, subst}
use Rattle.list_machine.specs.declared.views.Fact.TheVariants.{Item}
use Rattle.chunk_lists.specs.Keepers.{KnownIn}
use Rattle.list_table.specs.Ledgers.{shown}
use Rattle.chunk_lists.specs.Keepers.{ShownIn}
use Rattle.chunk_lists.proofs.knife.KnifeLeafLists.unpin.Goals as goal

pub returns-clause-known : goal.returns-clause-known
returns-clause-known c h d x q =
    let z = subst (λ k. KnownIn k.keeper h d x) (sym c.self.view_is) q in (z.0, c.take_back.ensures.known (Item h d z.0 x) z.1)

pub returns-clause-kept : goal.returns-clause-kept
returns-clause-kept c h d i y q = c.take_back.ensures.known (shown h d i y) (subst (λ k. ShownIn k.keeper h d i y) (sym c.self.view_is) q)
