use Rattle.std.proofs.Common.{◌≡◌, ℕ, ◌-◌, List, length, ap, sym, subst, ◌∙◌, arith}
use Rattle.std.specs.List.{slice_index, sum}
use Rattle.std.specs.Vec.{with_items}
use Rattle.std.proofs.lemmas.List.{length-set, with_items_is}
use Rattle.list_words.specs.Store.{counted_off}
use Rattle.list_book.specs.BookKept.{IsSound}
use Rattle.list_book.proofs.SoundLaws.{sound-seat_off}
use Rattle.list_book.proofs.book.Book.count_off.Goals as goal

pub invariant_of-self : goal.invariant_of-self
invariant_of-self c =
    let out : c.count_off.new.out ≡ counted_off c.self.inside.out.items c.args.birth = c.count_off.ensures.out ∙ ap (λ (xs : List ℕ). counted_off xs c.args.birth) c.deref_mut.ensures.value in
    let long : length c.count_off.new.out ≡ length c.self.inside.out.items = ap length out ∙ length-set c.self.inside.out.items c.args.birth (slice_index c.self.inside.out.items c.args.birth - 1) in
    let whole : (with_items c.self.inside.out c.count_off.new.out).items ≡ counted_off c.self.inside.out.items c.args.birth = with_items_is c.self.inside.out c.count_off.new.out (long ∙ sym c.self.inside.out.ok.0) ∙ out in
    let less : c.self.inside.seats - 1 ≡ sum (counted_off c.self.inside.out.items c.args.birth) = omega (arith, ap sum out, ap sum c.deref_mut.ensures.value, c.if-count_off.ensures.counted, c.self.invariant.sound.ordered.seats) in
    record {
      sound = subst (λ (xs : List ℕ). IsSound c.self.inside.rows.items c.self.inside.pool c.self.inside.held c.self.inside.order.items c.self.inside.cleared xs (c.self.inside.seats - 1)) (sym whole)
          (sound-seat_off c.self.inside.rows.items c.self.inside.pool c.self.inside.held c.self.inside.order.items c.self.inside.cleared c.self.inside.out.items c.self.inside.seats c.args.birth (c.self.inside.seats - 1) c.self.invariant.sound less);
      sized = c.self.invariant.sized;
      order_room = c.self.invariant.order_room;
      out_room = c.self.invariant.out_room;
      few_lists = c.self.invariant.few_lists;
      few_chunks = c.self.invariant.few_chunks;
      few_given = c.self.invariant.few_given;
    }
