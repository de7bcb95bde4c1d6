use Rattle.std.proofs.Common.{◌≡◌, ◌<◌, length, ap, sym, subst, ◌∙◌}
use Rattle.list_words.specs.declared.leaf_lists.Phase.TheVariants.{Fresh, Open}
use Rattle.list_book.specs.Books.{BookRow, BookValue, IsSized, book_row, row_at}
use Rattle.list_book.proofs.RowLaws.{opened_is, row_is, sized-opened, sized-set}
use Rattle.list_book.proofs.SoundLaws.{sound-opened}
use Rattle.list_book.proofs.book.Book.open_list.Goals as goal

pub invariant_of-self : goal.invariant_of-self
invariant_of-self c =
    let low : c.args.list < length c.self.inside.rows.items = subst (λ (b : BookValue). c.args.list < length b.rows) (sym c.self.view_is) c.requires.below in
    let R : BookRow = row_at c.self.inside.rows.items c.args.list in
    let fresh : R.phase ≡ Fresh = subst (λ (b : BookValue). (book_row b c.args.list).phase ≡ Fresh) (sym c.self.view_is) c.requires.new in
    let is : c.index_mut-row.result.now ≡ R = row_is c.self.inside.rows.items c.args.list c.index_mut-row.result.now low c.index_mut-row.ensures.value in
    let e : c.open.new.self ≡ (let q : BookRow = record R { phase = Open } in q) = c.open.ensures ∙ ap (λ (r : BookRow). let q : BookRow = record r { phase = Open } in q) is in
    record {
      sound = sound-opened c.self.inside.rows.items c.self.inside.pool c.self.inside.held c.self.inside.order.items c.self.inside.cleared c.self.inside.out.items c.self.inside.seats c.args.list c.open.new.self c.self.invariant.sound low fresh
          (ap (λ (r : BookRow). r.phase) e) (ap (λ (r : BookRow). r.claimed) e) (ap (λ (r : BookRow). r.owned) e);
      sized = sized-set c.self.inside.rows.items c.args.list c.open.new.self c.self.invariant.sized low
          (subst IsSized (sym (e ∙ opened_is R (c.self.invariant.sized c.args.list) fresh)) (sized-opened R));
      order_room = c.self.invariant.order_room;
      out_room = c.self.invariant.out_room;
      few_lists = c.self.invariant.few_lists;
      few_chunks = c.self.invariant.few_chunks;
      few_given = c.self.invariant.few_given;
    }
