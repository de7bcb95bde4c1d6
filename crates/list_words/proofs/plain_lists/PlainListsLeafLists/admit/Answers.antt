use Rattle.std.proofs.Common.{◌≡◌, ℕ, ◌+◌, ◌<◌, List, length, map, set, get_or, ap, sym, subst, ◌∙◌, arith}
use Rattle.std.proofs.lemmas.Grind.{get_or_default_zero}
use Rattle.list_machine.specs.Grants.{granted_in_all}
use Rattle.list_words.specs.Store.{Store, Row, admitted, counted}
use Rattle.list_words.specs.PlainRows.{PlainList, row_of}
use Rattle.list_words.specs.PlainGrants.{grant_lists}
use Rattle.list_words.specs.Plain.{Plain, store_of}
use Rattle.list_words.specs.PlainKept.{AreHomed, AreOrdered, AreSummed, plain_of}
use Rattle.list_words.proofs.SeatLaws.{counted_here, counted_is}
use Rattle.list_words.proofs.StoreLaws.{homed-grants, known-grants, may_grant, ordered-grants, rows-grants, shut-le, summed-grants}
use Rattle.list_words.specs.Plain.{list_in}
use Rattle.list_words.proofs.StoreLaws.{filed-grants}
use Rattle.list_words.proofs.SlotLaws.{borne_stays, slots_stay, stay_granted, still_out_counted}
use Rattle.list_words.specs.Plain.{StayFiled}
use Rattle.list_words.proofs.plain_lists.PlainListsLeafLists.admit.Goals as goal

pub grant_all-requires-clause-takes : goal.grant_all-requires-clause-takes
grant_all-requires-clause-takes c = λ k d low.
    may_grant (plain_of c.self.inside) c.args.self.now c.self.inside.pool c.self.inside.held (length c.self.inside.order.items) (get_or c.args.grants.now k d) c.self.view_is c.self.invariant.summed c.self.invariant.few_chunks
    (c.requires.takes k d low).0 (c.requires.takes k d low).1

pub overflow_cast-birth : goal.overflow_cast-birth
overflow_cast-birth c = omega (arith, c.len-birth.ensures, c.self.inside.order.ok.0, c.self.inside.rows.ok.0, c.self.invariant.summed.shuts, shut-le c.self.inside.rows.items, c.self.invariant.few_lists)

pub invariant_of-self : goal.invariant_of-self
invariant_of-self c =
    let place : c.len-birth.result ≡ length c.self.inside.order.items = c.len-birth.ensures ∙ c.self.inside.order.ok.0 in
    let low : c.len-birth.result < length c.self.inside.out.items = omega (arith, c.self.invariant.ordered.births) in
    let few : c.self.inside.given + granted_in_all c.args.grants.now < 2147483648 = subst (λ (p : Plain). p.given + granted_in_all c.args.grants.now < 2147483648) (sym c.self.view_is) c.requires.few in
    record {
      homed = subst (λ (ls : List PlainList). AreHomed ls c.self.inside.homes.items c.self.inside.pool) (sym c.grant_all.ensures.rows)
          (homed-grants c.args.grants.now c.self.inside.rows.items c.self.inside.homes.items c.self.inside.pool c.self.invariant.homed);
      summed = subst (λ (ls : List PlainList). AreSummed ls c.self.inside.pool c.self.inside.held (length c.self.inside.order.items)) (sym c.grant_all.ensures.rows)
          (summed-grants c.args.grants.now c.self.inside.rows.items c.self.inside.pool c.self.inside.held (length c.self.inside.order.items) c.self.invariant.summed);
      ordered = counted_here c.grant_all.new.rows.items c.self.inside.order.items c.self.inside.cleared c.self.inside.out.items c.self.inside.seats c.len-birth.result c.index_mut.result.now
          (subst (λ (ls : List PlainList). AreOrdered ls c.self.inside.order.items c.self.inside.cleared c.self.inside.out.items c.self.inside.seats) (sym c.grant_all.ensures.rows)
          (ordered-grants c.args.grants.now c.self.inside.rows.items c.self.inside.order.items c.self.inside.cleared c.self.inside.out.items c.self.inside.seats c.self.invariant.ordered))
          place (c.index_mut.ensures.value ∙ get_or_default_zero c.self.inside.out.items c.len-birth.result c.index_mut.result.now low);
      order_room = omega (arith, c.grant_all.ensures.len, c.self.invariant.order_room);
      out_room = omega (arith, c.grant_all.ensures.len, c.self.invariant.out_room);
      grants_room = omega arith;
      items_room = omega arith;
      no_grants = ap (λ (v : _). v.items) c.replace-kept.ensures.after ∙ c.new.ensures.items;
      no_answers = ap (λ (v : _). v.items) c.replace-answers.ensures.after ∙ c.new-2.ensures.items;
      few_lists = omega (arith, c.grant_all.ensures.len, c.self.invariant.few_lists);
      few_chunks = c.self.invariant.few_chunks;
      few_given = omega (arith, few, c.grant_all.ensures.all);
    }

pub returns-clause-store : goal.returns-clause-store
returns-clause-store c =
    let place : c.len-birth.result ≡ length c.self.inside.order.items = c.len-birth.ensures ∙ c.self.inside.order.ok.0 in
    let low : c.len-birth.result < length c.self.inside.out.items = omega (arith, c.self.invariant.ordered.births) in
    let out : set c.self.inside.out.items c.len-birth.result (c.index_mut.result.now + 1) ≡ counted c.self.inside.out.items (length c.self.inside.order.items) =
    counted_is c.self.inside.order.items c.self.inside.out.items c.len-birth.result c.index_mut.result.now place (c.index_mut.ensures.value ∙ get_or_default_zero c.self.inside.out.items c.len-birth.result c.index_mut.result.now low) in
    let rows : map row_of c.grant_all.new.rows.items ≡ map row_of (grant_lists c.args.grants.now c.self.inside.rows.items) = ap (map row_of) c.grant_all.ensures.rows in
    ap (λ (rs : List Row). let s : Store = record (store_of (plain_of c.self.inside)) { rows = rs; out = set c.self.inside.out.items c.len-birth.result (c.index_mut.result.now + 1); grants_room = 0; items_room = 0; given = c.self.inside.given + c.grant_all.result } in s)
    (rows ∙ rows-grants c.args.grants.now c.self.inside.rows.items)
    ∙ ap (λ (xs : List ℕ). let s : Store = record (admitted (store_of (plain_of c.self.inside)) c.args.grants.now) { out = xs; given = c.self.inside.given + c.grant_all.result } in s) out
    ∙ ap (λ n. let s : Store = record (admitted (store_of (plain_of c.self.inside)) c.args.grants.now) { given = c.self.inside.given + n } in s) c.grant_all.ensures.all
    ∙ ap (λ p. admitted (store_of p) c.args.grants.now) c.self.view_is

pub returns-clause-known : goal.returns-clause-known
returns-clause-known c = known-grants c.args.grants.now c.args.self.now (record (plain_of c.self.inside) { lists = c.grant_all.new.rows.items }) (c.grant_all.ensures.rows ∙ ap (λ (p : Plain). grant_lists c.args.grants.now p.lists) c.self.view_is)

pub returns-clause-same_filed : goal.returns-clause-same_filed
returns-clause-same_filed c = λ l.
    ap (λ (ls : List PlainList). (list_in ls l).filed) c.grant_all.ensures.rows ∙ filed-grants c.args.grants.now c.self.inside.rows.items l ∙ ap (λ (p : Plain). (list_in p.lists l).filed) c.self.view_is

pub returns-clause-stays : goal.returns-clause-stays
returns-clause-stays c = subst (λ (p : Plain). StayFiled p.lists c.grant_all.new.rows.items) c.self.view_is
    (subst (StayFiled c.self.inside.rows.items) (sym c.grant_all.ensures.rows) (stay_granted c.args.grants.now c.self.inside.rows.items))

pub returns-clause-kept : goal.returns-clause-kept
returns-clause-kept c = slots_stay _ _ (returns-clause-stays c)

pub returns-clause-borne : goal.returns-clause-borne
returns-clause-borne c = λ f borne. borne_stays _ _ (returns-clause-stays c) f (λ some. still_out_counted c.self.inside.out.items c.len-birth.result c.index_mut.result.now f.birth (subst (λ (p : Plain). 0 < get_or p.out f.birth 0) (sym c.self.view_is) some)) borne
