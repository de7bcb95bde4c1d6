use Rattle.std.proofs.Common.{◌≡◌, ◌<◌, inl, inr, length, ap, refl, sym, subst, ◌∙◌}
use Rattle.list_words.specs.PlainRows.{PlainList, filed_list}
use Rattle.list_words.specs.Plain.{Plain, list_in}
use Rattle.list_words.specs.declared.leaf_lists.Phase.TheVariants.{Shut}
use Rattle.list_words.proofs.StoreLaws.{SameShape, file_low, homed-same, list_is, ordered-same, phase_cases, same_shape, summed-same}
use Rattle.list_words.proofs.plain_lists.PlainLists.file.Goals as goal

pub invariant_of-self : goal.invariant_of-self
invariant_of-self c =
    let L : PlainList = list_in c.self.inside.rows.items c.args.list in
    let room : ((L.phase ≡ Shut → ⊥) → length L.filed < L.granted) =
    subst (λ (p : Plain). ((list_in p.lists c.args.list).phase ≡ Shut → ⊥) → length (list_in p.lists c.args.list).filed < (list_in p.lists c.args.list).granted) (sym c.self.view_is) c.requires.room in
    let low : c.args.list < length c.self.inside.rows.items = file_low c.self.inside.rows.items c.args.list room in
    let is : c.index_mut-row.result.now ≡ L = list_is c.self.inside.rows.items c.args.list c.index_mut-row.result.now low c.index_mut-row.ensures.value in
    let same : SameShape c.file-filed.new.self L = elim (phase_cases c.index_mut-row.result.now.phase) [
      | inl shut_now ↦ same_shape c.file-filed.new.self L L ((c.file-filed.ensures.late shut_now).1 ∙ is) (λ owned. refl) refl
      | inr takes ↦ same_shape c.file-filed.new.self L (filed_list L c.args.item) (c.file-filed.ensures.filed takes ∙ ap (λ (q : PlainList). filed_list q c.args.item) is) (λ owned. refl) refl
    ] in
    record {
      homed = homed-same c.self.inside.rows.items c.self.inside.homes.items c.self.inside.pool c.args.list c.file-filed.new.self c.self.invariant.homed low same;
      summed = summed-same c.self.inside.rows.items c.self.inside.pool c.self.inside.held (length c.self.inside.order.items) c.args.list c.file-filed.new.self c.self.invariant.summed low same;
      ordered = ordered-same c.self.inside.rows.items c.self.inside.order.items c.self.inside.cleared c.self.inside.out.items c.self.inside.seats c.args.list c.file-filed.new.self c.self.invariant.ordered low same;
      order_room = c.self.invariant.order_room;
      out_room = c.self.invariant.out_room;
      grants_room = c.self.invariant.grants_room;
      items_room = c.self.invariant.items_room;
      no_grants = c.self.invariant.no_grants;
      no_answers = c.self.invariant.no_answers;
      few_lists = c.self.invariant.few_lists;
      few_chunks = c.self.invariant.few_chunks;
      few_given = c.self.invariant.few_given;
    }
