use Rattle.std.proofs.Common.{◌≡◌, ℕ, ◌<◌, sym, ap, subst}
use Rattle.list_words.specs.Store.{Store, row, with_chunk, linked, IsNextChunk}
use Rattle.chunk_lists.specs.Keepers.{KnownIn}
use Rattle.chunk_lists.specs.Knives.{with_room, lists_of}
use Rattle.list_machine.specs.declared.views.Fact.TheVariants.{Item}
use Rattle.list_table.specs.Ledgers.{shown}
use Rattle.chunk_lists.specs.Keepers.{ShownIn}
use Rattle.chunk_lists.proofs.knife.KnifeLeafLists.extend_claimed.Goals as goal

pub returns-clause-store : goal.returns-clause-store
returns-clause-store c =
    let e = c.extend_claimed.ensures.store in
    let r = c.self.inside.room in
    subst (λ k. (y : ℕ) × IsNextChunk (lists_of k) y × (lists_of (record { keeper = c.extend_claimed.new.self; grants = r.grants; items = r.items }) ≡ with_chunk (lists_of k) c.args.list (linked (row (lists_of k) c.args.list) y))) c.self.view_is
    (e.0, record { below = e.1.below; unused = e.1.unused; least = e.1.least }, ap (λ (s : Store). with_room s r.grants r.items) e.2)

pub returns-clause-known : goal.returns-clause-known
returns-clause-known c h d x q =
    let z = subst (λ k. KnownIn k.keeper h d x) (sym c.self.view_is) q in (z.0, c.extend_claimed.ensures.known (Item h d z.0 x) z.1)

pub returns-clause-kept : goal.returns-clause-kept
returns-clause-kept c h d i y q = c.extend_claimed.ensures.known (shown h d i y) (subst (λ k. ShownIn k.keeper h d i y) (sym c.self.view_is) q)
