use Rattle.std.proofs.Common.{◌≡◌, ◌*◌, ◌<◌, ◌≤◌, length, ap, sym, subst, ◌∙◌, arith}
use Rattle.list_words.specs.declared.leaf_lists.Phase.TheVariants.{Open}
use Rattle.list_book.specs.Books.{BookRow, BookValue, IsSized, book_row, row_at, row_count, used_row}
use Rattle.list_book.proofs.PlaceLaws.{count_few}
use Rattle.list_book.proofs.RowLaws.{open_low, row_is, sized-set, sized-used}
use Rattle.list_book.proofs.SoundLaws.{sound-same}
use Rattle.list_book.proofs.book.Book.use_slot.Goals as goal

pub use_slot-requires-clause-fits : goal.use_slot-requires-clause-fits
use_slot-requires-clause-fits c =
    let R : BookRow = row_at c.self.inside.rows.items c.args.list in
    let takes : R.phase ≡ Open = subst (λ (b : BookValue). (book_row b c.args.list).phase ≡ Open) (sym c.self.view_is) c.requires.takes in
    let room : R.used < 256 * length R.owned = subst (λ (b : BookValue). (book_row b c.args.list).used < 256 * length (book_row b c.args.list).owned) (sym c.self.view_is) c.requires.room in
    let low : c.args.list < length c.self.inside.rows.items = open_low c.self.inside.rows.items c.args.list takes in
    let is : c.index_mut-row.result.now ≡ R = row_is c.self.inside.rows.items c.args.list c.index_mut-row.result.now low c.index_mut-row.ensures.value in
    let used : c.index_mut-row.result.now.used ≡ R.used = ap (λ (r : BookRow). r.used) is in
    let few : row_count R ≤ c.self.inside.pool.size =
    count_few c.self.inside.rows.items c.self.inside.pool c.self.inside.held c.self.inside.order.items c.self.inside.cleared c.self.inside.out.items c.self.inside.seats c.args.list c.self.invariant.sound low in
    omega (arith, c.self.invariant.few_chunks)

pub invariant_of-self : goal.invariant_of-self
invariant_of-self c =
    let R : BookRow = row_at c.self.inside.rows.items c.args.list in
    let takes : R.phase ≡ Open = subst (λ (b : BookValue). (book_row b c.args.list).phase ≡ Open) (sym c.self.view_is) c.requires.takes in
    let room : R.used < 256 * length R.owned = subst (λ (b : BookValue). (book_row b c.args.list).used < 256 * length (book_row b c.args.list).owned) (sym c.self.view_is) c.requires.room in
    let low : c.args.list < length c.self.inside.rows.items = open_low c.self.inside.rows.items c.args.list takes in
    let is : c.index_mut-row.result.now ≡ R = row_is c.self.inside.rows.items c.args.list c.index_mut-row.result.now low c.index_mut-row.ensures.value in
    let e : c.use_slot.new.self ≡ used_row R = c.use_slot.ensures.used ∙ ap used_row is in
    record {
      sound = sound-same c.self.inside.rows.items c.self.inside.pool c.self.inside.held c.self.inside.order.items c.self.inside.cleared c.self.inside.out.items c.self.inside.seats c.args.list c.use_slot.new.self c.self.invariant.sound low
          (record { claimed = ap (λ (r : BookRow). r.claimed) e; owned = ap (λ (r : BookRow). r.owned) e; phase = ap (λ (r : BookRow). r.phase) e });
      sized = sized-set c.self.inside.rows.items c.args.list c.use_slot.new.self c.self.invariant.sized low (subst IsSized (sym e) (sized-used R room (c.self.invariant.sized c.args.list)));
      order_room = c.self.invariant.order_room;
      out_room = c.self.invariant.out_room;
      few_lists = c.self.invariant.few_lists;
      few_chunks = c.self.invariant.few_chunks;
      few_given = c.self.invariant.few_given;
    }
