use Rattle.std.proofs.Common.{◌≡◌, ◌<◌, length, ap, sym, subst, ◌∙◌}
use Rattle.list_book.specs.Books.{BookRow, BookValue, IsSized, roomier_row, row_at}
use Rattle.list_book.proofs.RowLaws.{row_is, sized-roomier, sized-set}
use Rattle.list_book.proofs.SoundLaws.{sound-same}
use Rattle.list_book.proofs.book.Book.reserve.Goals as goal

pub invariant_of-self-2 : goal.invariant_of-self-2
invariant_of-self-2 c =
    let low : c.args.list < length c.self.inside.rows.items = subst (λ (b : BookValue). c.args.list < length b.rows) (sym c.self.view_is) c.requires in
    let R : BookRow = row_at c.self.inside.rows.items c.args.list in
    let is : c.index_mut-row.result.now ≡ R = row_is c.self.inside.rows.items c.args.list c.index_mut-row.result.now low c.index_mut-row.ensures.value in
    let e : c.reserve.new.self ≡ roomier_row R c.args.claimed c.args.owned = c.in_ok-reserve.ensures.ok ∙ ap (λ (r : BookRow). roomier_row r c.args.claimed c.args.owned) is in
    record {
      sound = sound-same c.self.inside.rows.items c.self.inside.pool c.self.inside.held c.self.inside.order.items c.self.inside.cleared c.self.inside.out.items c.self.inside.seats c.args.list c.reserve.new.self c.self.invariant.sound low
          (record { claimed = ap (λ (r : BookRow). r.claimed) e; owned = ap (λ (r : BookRow). r.owned) e; phase = ap (λ (r : BookRow). r.phase) e });
      sized = sized-set c.self.inside.rows.items c.args.list c.reserve.new.self c.self.invariant.sized low
          (subst IsSized (sym e) (sized-roomier R c.args.claimed c.args.owned (c.self.invariant.sized c.args.list)));
      order_room = c.self.invariant.order_room;
      out_room = c.self.invariant.out_room;
      few_lists = c.self.invariant.few_lists;
      few_chunks = c.self.invariant.few_chunks;
      few_given = c.self.invariant.few_given;
    }
