use Rattle.std.proofs.Common.{◌≡◌, ℕ, ◌+◌, ◌<◌, ◌≤◌, true, false, length, set, ap, sym, subst, ◌∙◌, arith}
use Rattle.std.specs.FinSet as set_of
use Rattle.chunk_pool.specs.Numbers.{Numbers}
use Rattle.list_words.specs.declared.leaf_lists.Phase.TheVariants.{Open}
use Rattle.list_words.proofs.ChunkLaws.{len-without}
use Rattle.list_book.specs.Books.{BookRow, BookValue, IsInNoRow, IsSized, book_row, lengthened_row, row_at, row_chain, with_taken_chunk}
use Rattle.list_book.specs.BookKept.{IsSound, book_of}
use Rattle.list_book.proofs.PlaceLaws.{free_nowhere, nowhere_free, taken_view}
use Rattle.list_book.proofs.RowLaws.{open_low, row_is, sized-lengthened, sized-set}
use Rattle.list_book.proofs.SoundLaws.{sound-more}
use Rattle.list_book.proofs.book.Book.extend_owned.Goals as goal

pub invariant_of-self : goal.invariant_of-self
invariant_of-self c =
    let R : BookRow = row_at c.self.inside.rows.items c.args.list in
    let takes : R.phase ≡ Open = subst (λ (b : BookValue). (book_row b c.args.list).phase ≡ Open) (sym c.self.view_is) c.requires.takes in
    let low : c.args.list < length c.self.inside.rows.items = open_low c.self.inside.rows.items c.args.list takes in
    let is : c.index_mut-row.result.now ≡ R = row_is c.self.inside.rows.items c.args.list c.index_mut-row.result.now low c.index_mut-row.ensures.value in
    let e : c.lengthen.new.self ≡ lengthened_row R c.in-Some.chunk = c.lengthen.ensures ∙ ap (λ (r : BookRow). lengthened_row r c.in-Some.chunk) is in
    record {
      sound = subst (λ (p : Numbers). IsSound (set c.self.inside.rows.items c.args.list c.lengthen.new.self) p c.self.inside.held c.self.inside.order.items c.self.inside.cleared c.self.inside.out.items c.self.inside.seats) (sym c.in-Some.ensures.after)
          (sound-more c.self.inside.rows.items c.self.inside.pool c.self.inside.held c.self.inside.order.items c.self.inside.cleared c.self.inside.out.items c.self.inside.seats c.args.list c.in-Some.chunk c.lengthen.new.self true c.self.invariant.sound
          c.in-Some.ensures.least.free c.in-Some.ensures.below takes (ap (λ (r : BookRow). r.phase) e ∙ takes) (ap (row_chain true) e) (ap (row_chain false) e));
      sized = sized-set c.self.inside.rows.items c.args.list c.lengthen.new.self c.self.invariant.sized low (subst IsSized (sym e) (sized-lengthened R c.in-Some.chunk takes (c.self.invariant.sized c.args.list)));
      order_room = c.self.invariant.order_room;
      out_room = c.self.invariant.out_room;
      few_lists = c.self.invariant.few_lists;
      few_chunks = let same : c.take.new.self.size ≡ c.self.inside.pool.size = ap (λ (p : Numbers). p.size) c.in-Some.ensures.after in omega (arith, c.self.invariant.few_chunks);
      few_given = c.self.invariant.few_given;
    }

pub returns-clause-unused : goal.returns-clause-unused
returns-clause-unused c =
    subst (λ (b : BookValue). IsInNoRow b c.in-Some.chunk) c.self.view_is
    (free_nowhere c.self.inside.rows.items c.self.inside.pool c.self.inside.held c.self.inside.order.items c.self.inside.cleared c.self.inside.out.items c.self.inside.seats c.in-Some.chunk c.self.invariant.sound c.in-Some.ensures.least.free)

pub returns-clause-least : goal.returns-clause-least
returns-clause-least c =
    subst (λ (b : BookValue). (k : ℕ) → k < b.chunks → IsInNoRow b k → c.in-Some.chunk ≤ k) c.self.view_is (λ k small none.
    c.in-Some.ensures.least.least k (nowhere_free c.self.inside.rows.items c.self.inside.pool c.self.inside.held c.self.inside.order.items c.self.inside.cleared c.self.inside.out.items c.self.inside.seats k c.self.invariant.sound small none))

pub returns-clause-book : goal.returns-clause-book
returns-clause-book c =
    let R : BookRow = row_at c.self.inside.rows.items c.args.list in
    let takes : R.phase ≡ Open = subst (λ (b : BookValue). (book_row b c.args.list).phase ≡ Open) (sym c.self.view_is) c.requires.takes in
    let low : c.args.list < length c.self.inside.rows.items = open_low c.self.inside.rows.items c.args.list takes in
    let is : c.index_mut-row.result.now ≡ R = row_is c.self.inside.rows.items c.args.list c.index_mut-row.result.now low c.index_mut-row.ensures.value in
    let size : c.take.new.self.size ≡ c.self.inside.pool.size = ap (λ (p : Numbers). p.size) c.in-Some.ensures.after in
    let one : set_of.len c.take.new.self.free + 1 ≡ set_of.len c.self.inside.pool.free =
    ap (λ (p : Numbers). set_of.len p.free + 1) c.in-Some.ensures.after ∙ len-without c.self.inside.pool c.in-Some.chunk c.in-Some.ensures.least.free in
    taken_view (book_of c.self.inside) c.args.list c.index_mut-row.result.now c.lengthen.new.self (λ (r : BookRow). lengthened_row r c.in-Some.chunk) c.take.new.self.size (set_of.len c.take.new.self.free) is c.lengthen.ensures size one
    ∙ ap (λ (b : BookValue). with_taken_chunk b c.args.list (lengthened_row (book_row b c.args.list) c.in-Some.chunk)) c.self.view_is
