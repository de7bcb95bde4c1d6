use Rattle.std.proofs.Common.{◌≡◌, sym, subst, Contains}
use Rattle.list_words.specs.Store.{row, chunks_of}
use Rattle.list_words.specs.declared.leaf_lists.Phase.TheVariants.{Open}
use Rattle.chunk_lists.specs.Keepers.{KnownIn}
use Rattle.chunk_lists.specs.Knives.{lists_of, Sees}
use Rattle.list_machine.specs.declared.views.Fact.TheVariants.{Item}
use Rattle.list_table.specs.Ledgers.{shown}
use Rattle.chunk_lists.specs.Keepers.{ShownIn}
use Rattle.chunk_lists.proofs.knife.KnifeLeafLists.note.Goals as goal

pub returns-clause-sees : goal.returns-clause-sees
returns-clause-sees c l d x unshut q =
    let z = subst (λ k. KnownIn k.keeper l d x) (sym c.self.view_is) q in
    let there = c.known_items_have_chunks.ensures l d z.0 x z.1 in
    let seen = c.lend_none-seat.ensures.open l d z.0 x (subst (λ k. (row (lists_of k) l).phase ≡ Open) (sym c.self.view_is) unshut) z.1 in
    (subst (λ k. Contains (chunks_of (row (lists_of k) l)) d) c.self.view_is there.0, subst (λ r. Sees r d x) (sym c.new.ensures) (l, z.0, there.1, seen))

pub returns-clause-known : goal.returns-clause-known
returns-clause-known c h d x q =
    let z = subst (λ k. KnownIn k.keeper h d x) (sym c.self.view_is) q in (z.0, c.lend_none-seat.ensures.known (Item h d z.0 x) z.1)

pub returns-clause-kept : goal.returns-clause-kept
returns-clause-kept c h d i y q = c.lend_none-seat.ensures.known (shown h d i y) (subst (λ k. ShownIn k.keeper h d i y) (sym c.self.view_is) q)
