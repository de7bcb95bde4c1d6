use Rattle.std.proofs.Common.{sym, ap, ◌∙◌}
use Rattle.list_words.specs.Store.{held_of}
use Rattle.chunk_lists.specs.Keepers.{store_of}
use Rattle.chunk_lists.proofs.Rows.{held-rows}
use Rattle.chunk_lists.proofs.keeper.Keeper.held.Goals as goal

pub returns : goal.returns
returns c =
    let i = c.self.inside in let t = c.self.invariant.tied in
    c.held.ensures ∙ (sym (held-rows i.book.rows i.seat.ledger.notes (t.notes ∙ sym t.rows)) ∙ ap (λ k. held_of (store_of k)) c.self.view_is)
