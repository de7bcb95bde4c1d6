use Rattle.std.proofs.Common.{length, sym, ap, ◌∙◌}
use Rattle.chunk_lists.specs.Keepers.{store_of}
use Rattle.chunk_lists.proofs.Rows.{rows_length}
use Rattle.chunk_lists.proofs.keeper.Keeper.shared.Goals as goal

pub returns-clause-lists : goal.returns-clause-lists
returns-clause-lists c =
    let i = c.self.inside in let t = c.self.invariant.tied in
    ap (λ v. v.lists) c.deref.ensures ∙ (sym t.rows ∙ (sym (rows_length i.book.rows i.seat.ledger.notes (t.notes ∙ sym t.rows)) ∙ ap (λ k. length (store_of k).rows) c.self.view_is))
