use Rattle.std.proofs.Common.{sym, subst, Contains}
use Rattle.list_machine.specs.declared.views.Fact.TheVariants.{Item}
use Rattle.list_words.specs.Store.{chunks_of, row}
use Rattle.list_table.specs.Ledgers.{Knows}
use Rattle.chunk_lists.specs.Keepers.{store_of}
use Rattle.chunk_lists.proofs.Knowing.{chunk_then}
use Rattle.chunk_lists.proofs.keeper.Keeper.known_items_have_chunks.Goals as goal

pub returns : goal.returns
returns c l d k x q =
    let i = c.self.inside in let g = i.seat.ledger in let b = i.book in let t = c.self.invariant.tied in let n = i.lists.value.lists in let m = i.lists.value.chunks in
    let y = c.items_stand_in_chunks.ensures l d k x (subst (λ v. Knows v.ledger.owner.facts (Item l d k x)) (sym c.self.view_is) q) in
    (subst (λ v. Contains (chunks_of (row (store_of v) l)) d) c.self.view_is (chunk_then n m g b t l d y.0 y.1 y.3), y.4, y.5)
