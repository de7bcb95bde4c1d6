use Rattle.std.proofs.Common.{◌<◌, length, sym, ap, ◌∙◌, subst, arith}
use Rattle.list_words.specs.Store.{Row, row}
use Rattle.chunk_lists.specs.Keepers.{store_of}
use Rattle.chunk_lists.proofs.Ties.{row_is, row_below}
use Rattle.chunk_lists.proofs.keeper.Keeper.owned.Goals as goal

pub owned-requires : goal.owned-requires
owned-requires c =
    let i = c.self.inside in let g = i.seat.ledger in let b = i.book in let t = c.self.invariant.tied in let n = i.lists.value.lists in let m = i.lists.value.chunks in let l = c.args.list in
    let low = row_below n m g b t l (subst (λ k. l < length (store_of k).rows) (sym c.self.view_is) c.requires) in let rows = t.rows in omega arith

pub returns : goal.returns
returns c =
    let i = c.self.inside in let g = i.seat.ledger in let b = i.book in let t = c.self.invariant.tied in let n = i.lists.value.lists in let m = i.lists.value.chunks in let l = c.args.list in
    c.owned.ensures ∙ (ap (λ (r : Row). r.owned) (sym (row_is n m g b t l)) ∙ ap (λ k. (row (store_of k) l).owned) c.self.view_is)
