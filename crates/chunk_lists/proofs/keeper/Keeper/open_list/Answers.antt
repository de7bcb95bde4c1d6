use Rattle.std.proofs.Common.{◌≡◌, ◌<◌, length, sym, ap, ◌∙◌, subst, arith}
use Rattle.list_words.specs.Store.{row, with_row, opened}
use Rattle.list_words.specs.declared.leaf_lists.Phase.TheVariants.{Fresh}
use Rattle.list_book.specs.Books.{book_row, with_book_row, opened_row}
use Rattle.list_table.specs.Ledgers.{leaf_of, notes_of}
use Rattle.chunk_lists.specs.Keepers.{IsKeeper, row_of, store_of}
use Rattle.chunk_lists.proofs.Ties.{row_below, phase_is, fresh_phase, tied_set, store_then, book_changes, opened_tied}
use Rattle.chunk_lists.proofs.keeper.Keeper.open_list.Goals as goal

pub open_list-requires-clause-below : goal.open_list-requires-clause-below
open_list-requires-clause-below c =
    let i = c.self.inside in let g = i.seat.ledger in let b = i.book in let t = c.self.invariant.tied in let n = i.lists.value.lists in let m = i.lists.value.chunks in let l = c.args.list in
    let low = row_below n m g b t l (subst (λ k. l < length (store_of k).rows) (sym c.self.view_is) c.requires.below) in let rows = t.rows in omega arith

pub open_list-requires-clause-new : goal.open_list-requires-clause-new
open_list-requires-clause-new c =
    let i = c.self.inside in let g = i.seat.ledger in let b = i.book in let t = c.self.invariant.tied in let n = i.lists.value.lists in let m = i.lists.value.chunks in let l = c.args.list in
    phase_is n m g b t l Fresh (subst (λ k. (row (store_of k) l).phase ≡ Fresh) (sym c.self.view_is) c.requires.new)

pub invariant_of-self : goal.invariant_of-self
invariant_of-self c =
    let i = c.self.inside in let g = i.seat.ledger in let b = i.book in let t = c.self.invariant.tied in let n = i.lists.value.lists in let m = i.lists.value.chunks in let l = c.args.list in
    let low = row_below n m g b t l (subst (λ k. l < length (store_of k).rows) (sym c.self.view_is) c.requires.below) in
    let new = phase_is n m g b t l Fresh (subst (λ k. (row (store_of k) l).phase ≡ Fresh) (sym c.self.view_is) c.requires.new) in
    subst (IsKeeper i.lists.value i.seat) (sym c.open_list.ensures) (record {
      name = c.self.invariant.name;
      tied = tied_set n m g b t g (with_book_row b l (opened_row (book_row b l))) l (opened_row (book_row b l)) (leaf_of g l) (notes_of g l) low (opened_tied (book_row b l) (leaf_of g l) (notes_of g l) (t.each l low) new) (book_changes n m g b t l (opened_row (book_row b l)));
    })

pub returns-clause-store : goal.returns-clause-store
returns-clause-store c =
    let i = c.self.inside in let g = i.seat.ledger in let b = i.book in let t = c.self.invariant.tied in let n = i.lists.value.lists in let m = i.lists.value.chunks in let l = c.args.list in
    let low = row_below n m g b t l (subst (λ k. l < length (store_of k).rows) (sym c.self.view_is) c.requires.below) in
    let new = phase_is n m g b t l Fresh (subst (λ k. (row (store_of k) l).phase ≡ Fresh) (sym c.self.view_is) c.requires.new) in
    let none = (fresh_phase (book_row b l) (leaf_of g l) (notes_of g l) (t.each l low) new).1 in
    subst (λ k. store_of (record { name = i.seat.name; ledger = g; book = c.open_list.new.self }) ≡ with_row (store_of k) l (opened (row (store_of k) l))) c.self.view_is
    (ap (λ d. store_of (record { name = i.seat.name; ledger = g; book = d })) c.open_list.ensures
    ∙ store_then n m g b t i.seat.name g (with_book_row b l (opened_row (book_row b l))) l (opened_row (book_row b l)) (leaf_of g l) (notes_of g l) opened (book_changes n m g b t l (opened_row (book_row b l)))
    (λ x. record (opened (row_of (book_row b l) (notes_of g l))) { placed = (none x).placed; marked = (none x).marked }))
