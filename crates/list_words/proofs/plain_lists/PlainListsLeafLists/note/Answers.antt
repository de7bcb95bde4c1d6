use Rattle.std.proofs.Common.{◌≡◌, ◌<◌, List, length, ap, ◌∙◌, sym, subst, arith}
use Rattle.std.proofs.lemmas.Grind.{get_or_default_zero}
use Rattle.list_words.specs.PlainRows.{PlainList}
use Rattle.list_words.specs.Plain.{Plain, Knows, StandsIn, list_in}
use Rattle.list_words.specs.PlainKept.{plain_of}
use Rattle.list_words.specs.declared.leaf_lists.Phase.TheVariants.{Open}
use Rattle.list_words.proofs.SeatLaws.{counted_here}
use Rattle.list_words.proofs.StoreLaws.{open_phase, shut-le, stands_chunk}
use Rattle.list_words.specs.Plain.{Plain, StayFiled}
use Rattle.std.proofs.Common.{ap, subst}
use Rattle.list_words.proofs.SlotLaws.{borne_stays, slots_stay, stay_same, still_out_counted}
use Rattle.std.proofs.Common.{get_or}
use Rattle.list_words.proofs.plain_lists.PlainListsLeafLists.note.Goals as goal

pub overflow_cast-result : goal.overflow_cast-result
overflow_cast-result c = omega (arith, c.len-now.ensures, c.self.inside.order.ok.0, c.self.inside.rows.ok.0, c.self.invariant.summed.shuts, shut-le c.self.inside.rows.items, c.self.invariant.few_lists)

pub invariant_of-self : goal.invariant_of-self
invariant_of-self c =
    let place : c.len-now.result ≡ length c.self.inside.order.items = c.len-now.ensures ∙ c.self.inside.order.ok.0 in
    let low : c.len-now.result < length c.self.inside.out.items = omega (arith, c.self.invariant.ordered.births) in
    record {
      homed = c.self.invariant.homed;
      summed = c.self.invariant.summed;
      ordered = counted_here c.self.inside.rows.items c.self.inside.order.items c.self.inside.cleared c.self.inside.out.items c.self.inside.seats c.len-now.result c.index_mut.result.now c.self.invariant.ordered place
          (c.index_mut.ensures.value ∙ get_or_default_zero c.self.inside.out.items c.len-now.result c.index_mut.result.now low);
      order_room = c.self.invariant.order_room;
      out_room = c.self.invariant.out_room;
      grants_room = c.self.invariant.grants_room;
      items_room = c.self.invariant.items_room;
      no_grants = c.self.invariant.no_grants;
      no_answers = c.self.invariant.no_answers;
      few_lists = c.self.invariant.few_lists;
      few_chunks = c.self.invariant.few_chunks;
      few_given = c.self.invariant.few_given;
    }

pub returns-clause-sees : goal.returns-clause-sees
returns-clause-sees c = λ l k x open_now known.
    let phase : (list_in c.self.inside.rows.items l).phase ≡ Open = open_phase (plain_of c.self.inside) c.args.self.now l c.self.view_is open_now in
    let stands : StandsIn (list_in c.self.inside.rows.items l) k x = subst (λ (p : Plain). Knows p l k x) (sym c.self.view_is) known in
    let rows_are : c.of.result.value.items ≡ c.self.inside.rows.items = ap (λ v. v.items) c.of.ensures in
    (stands_chunk c.args.self.now l k x known, (l, subst (λ (rows : List PlainList). (list_in rows l).phase ≡ Open) (sym rows_are) phase, subst (λ (rows : List PlainList). StandsIn (list_in rows l) k x) (sym rows_are) stands))

pub returns-clause-stays : goal.returns-clause-stays
returns-clause-stays c = subst (λ (p : Plain). StayFiled p.lists c.self.inside.rows.items) c.self.view_is (stay_same c.self.inside.rows.items)

pub returns-clause-kept : goal.returns-clause-kept
returns-clause-kept c = slots_stay _ _ (returns-clause-stays c)

pub returns-clause-borne : goal.returns-clause-borne
returns-clause-borne c = λ f borne. borne_stays _ _ (returns-clause-stays c) f (λ some. still_out_counted c.self.inside.out.items c.len-now.result c.index_mut.result.now f.birth (subst (λ (p : Plain). 0 < get_or p.out f.birth 0) (sym c.self.view_is) some)) borne
