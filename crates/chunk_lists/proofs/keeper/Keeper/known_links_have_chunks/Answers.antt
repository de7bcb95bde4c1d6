use Rattle.std.proofs.Common.{◌≡◌, Some, sym, subst}
use Rattle.std.specs.List.{slice_get}
use Rattle.list_machine.specs.declared.views.Fact.TheVariants.{Link}
use Rattle.list_words.specs.Store.{row}
use Rattle.list_table.specs.Ledgers.{Knows}
use Rattle.chunk_lists.specs.Keepers.{store_of}
use Rattle.chunk_lists.proofs.Knowing.{claimed_then}
use Rattle.chunk_lists.proofs.keeper.Keeper.known_links_have_chunks.Goals as goal

pub returns : goal.returns
returns c l r d from q =
    let i = c.self.inside in let g = i.seat.ledger in let b = i.book in let t = c.self.invariant.tied in let n = i.lists.value.lists in let m = i.lists.value.chunks in
    let y = c.links_stand_in_chains.ensures l r d from (subst (λ v. Knows v.ledger.owner.facts (Link l from r d)) (sym c.self.view_is) q) in
    subst (λ v. slice_get (row (store_of v) l).claimed r ≡ Some d) c.self.view_is (claimed_then n m g b t l r d y.0 y.1 y.3)
