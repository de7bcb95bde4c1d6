use Rattle.std.proofs.Common.{◌≡◌, ℕ, List, [], ◌∷◌, ◌++◌, length, ap, sym, subst, ◌∙◌, arith}
use Rattle.std.specs.Prelude.{replicate}
use Rattle.std.specs.FinSet as set_of
use Rattle.std.proofs.lemmas.List.{length-replicate}
use Rattle.chunk_pool.specs.Numbers.{Numbers, all_free}
use Rattle.chunk_pool.proofs.HeapLaws.{len_all_below}
use Rattle.list_book.specs.Books.{BookRow, BookValue, IsSized, fresh_row, row_at}
use Rattle.list_book.specs.BookKept.{IsSound}
use Rattle.list_book.proofs.FreshBooks.{rows_sized, sound-fresh}
use Rattle.list_book.proofs.book.Book.new.Goals as goal

pub invariant_of-result : goal.invariant_of-result
invariant_of-result c =
    let long : length c.in_ok-rows.rows.items ≡ c.args.lists = ap length c.in_ok-rows.ensures ∙ length-replicate c.args.lists fresh_row in
    let out : c.push_within.new.values.items ≡ 0 ∷ [] = c.push_within.ensures.items ∙ ap (λ (xs : List ℕ). xs ++ 0 ∷ []) c.in_ok-out.ensures.items in
    record {
      sound = subst (λ (rs : List BookRow). IsSound rs c.in_ok-pool.pool 0 c.in_ok-order.order.items 0 c.push_within.new.values.items 0) (sym c.in_ok-rows.ensures)
          (subst (λ (p : Numbers). IsSound (replicate c.args.lists fresh_row) p 0 c.in_ok-order.order.items 0 c.push_within.new.values.items 0) (sym c.in_ok-pool.ensures)
          (subst (λ (xs : List ℕ). IsSound (replicate c.args.lists fresh_row) (all_free c.args.chunks) 0 xs 0 c.push_within.new.values.items 0) (sym c.in_ok-order.ensures.items)
          (subst (λ (xs : List ℕ). IsSound (replicate c.args.lists fresh_row) (all_free c.args.chunks) 0 [] 0 xs 0) (sym out) (sound-fresh c.args.lists c.args.chunks))));
      sized = λ l. subst (λ (rs : List BookRow). IsSized (row_at rs l)) (sym c.in_ok-rows.ensures) (rows_sized c.args.lists l);
      order_room = omega (arith, long, c.in_ok-rows.rows.ok.0, c.in_ok-order.ensures.capacity);
      out_room = omega (arith, long, c.in_ok-rows.rows.ok.0, c.in_ok-out.ensures.capacity, c.push_within.ensures.capacity);
      few_lists = omega (arith, long, c.in_ok-rows.rows.ok.0, c.requires.lists);
      few_chunks = let chunks : c.in_ok-pool.pool.size ≡ c.args.chunks = ap (λ (p : Numbers). p.size) c.in_ok-pool.ensures in omega (arith, c.requires.chunks);
      few_given = omega arith;
    }

book_with : List BookRow → Numbers → List ℕ → List ℕ → BookValue
book_with rows p order out = record { chunks = p.size; rows = rows; free = set_of.len p.free; order = order; cleared = 0; out = out; given = 0 }

pub returns : goal.returns
unfolding book_with
returns c =
    let out : c.push_within.new.values.items ≡ 0 ∷ [] = c.push_within.ensures.items ∙ ap (λ (xs : List ℕ). xs ++ 0 ∷ []) c.in_ok-out.ensures.items in
    ap (λ (rs : List BookRow). book_with rs c.in_ok-pool.pool c.in_ok-order.order.items c.push_within.new.values.items) c.in_ok-rows.ensures
    ∙ ap (λ (p : Numbers). book_with (replicate c.args.lists fresh_row) p c.in_ok-order.order.items c.push_within.new.values.items) c.in_ok-pool.ensures
    ∙ ap (λ (xs : List ℕ). book_with (replicate c.args.lists fresh_row) (all_free c.args.chunks) xs c.push_within.new.values.items) c.in_ok-order.ensures.items
    ∙ ap (λ (xs : List ℕ). book_with (replicate c.args.lists fresh_row) (all_free c.args.chunks) [] xs) out
    ∙ ap (λ n. let q : BookValue = record { chunks = c.args.chunks; rows = replicate c.args.lists fresh_row; free = n; order = []; cleared = 0; out = 0 ∷ []; given = 0 } in q) (len_all_below c.args.chunks)
