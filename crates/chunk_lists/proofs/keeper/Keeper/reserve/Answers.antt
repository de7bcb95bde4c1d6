use Rattle.std.proofs.Common.{◌≡◌, ◌<◌, length, refl, sym, ap, ◌∙◌, subst, arith}
use Rattle.list_words.specs.Store.{row, with_row, roomier}
use Rattle.list_book.specs.Books.{book_row, with_book_row, roomier_row}
use Rattle.list_table.specs.Ledgers.{leaf_of, notes_of}
use Rattle.chunk_lists.specs.Keepers.{IsKeeper, store_of}
use Rattle.chunk_lists.proofs.Ties.{row_below, tied_set, store_then, book_changes, roomier_tied, ok_or_err, on_ok}
use Rattle.chunk_lists.proofs.keeper.Keeper.reserve.Goals as goal

pub reserve-requires : goal.reserve-requires
reserve-requires c =
    let i = c.self.inside in let g = i.seat.ledger in let b = i.book in let t = c.self.invariant.tied in let n = i.lists.value.lists in let m = i.lists.value.chunks in let l = c.args.list in
    let low = row_below n m g b t l (subst (λ k. l < length (store_of k).rows) (sym c.self.view_is) c.requires) in let rows = t.rows in omega arith

pub invariant_of-self : goal.invariant_of-self
invariant_of-self c =
    let i = c.self.inside in let g = i.seat.ledger in let b = i.book in let t = c.self.invariant.tied in let n = i.lists.value.lists in let m = i.lists.value.chunks in let l = c.args.list in
    let low = row_below n m g b t l (subst (λ k. l < length (store_of k).rows) (sym c.self.view_is) c.requires) in
    let r = roomier_row (book_row b l) c.args.claimed c.args.owned in
    ok_or_err c.reserve.result c.reserve.ensures.ok c.reserve.ensures.err
    (λ e. subst (IsKeeper i.lists.value i.seat) (sym e) (record {
      name = c.self.invariant.name;
      tied = tied_set n m g b t g (with_book_row b l r) l r (leaf_of g l) (notes_of g l) low (roomier_tied (book_row b l) (leaf_of g l) (notes_of g l) c.args.claimed c.args.owned (t.each l low)) (book_changes n m g b t l r);
    }))
    (λ e. subst (IsKeeper i.lists.value i.seat) (sym e) c.self.invariant)

pub returns-clause-ok : goal.returns-clause-ok
returns-clause-ok c =
    let i = c.self.inside in let g = i.seat.ledger in let b = i.book in let t = c.self.invariant.tied in let n = i.lists.value.lists in let m = i.lists.value.chunks in let l = c.args.list in
    let r = roomier_row (book_row b l) c.args.claimed c.args.owned in
    on_ok c.reserve.result (λ e. subst (λ k. store_of (record { name = i.seat.name; ledger = g; book = c.reserve.new.self }) ≡ with_row (store_of k) l (roomier (row (store_of k) l) c.args.claimed c.args.owned)) c.self.view_is
    (ap (λ d. store_of (record { name = i.seat.name; ledger = g; book = d })) e
    ∙ store_then n m g b t i.seat.name g (with_book_row b l r) l r (leaf_of g l) (notes_of g l) (λ x. roomier x c.args.claimed c.args.owned) (book_changes n m g b t l r) refl)) c.reserve.ensures.ok
