use Rattle.std.proofs.Common.{◌≡◌, ◌<◌, Bool, true, false, [], length, ap, subst, sym, ◌∙◌}
use Rattle.list_words.specs.Store.{Keeps, is_shut, opened, row, with_row}
use Rattle.list_words.specs.PlainRows.{PlainList, opened_list, row_of}
use Rattle.list_words.specs.Plain.{Knows, chain, list_in, store_of, with_list}
use Rattle.list_words.specs.PlainKept.{plain_of}
use Rattle.list_words.proofs.StoreLaws.{SameShape, homed-same, known_changed, list_is, nothing_stands, ordered-same, store_changed, summed-same, within_rows}
use Rattle.list_words.specs.Plain.{SameFiled}
use Rattle.list_words.proofs.StoreLaws.{filed_changed}
use Rattle.list_words.proofs.SlotLaws.{borne_same, slots_stay, stay_changed}
use Rattle.list_words.specs.Plain.{Plain, StayFiled}
use Rattle.std.proofs.Common.{set}
use Rattle.list_words.proofs.SlotLaws.{fresh_phase}
use Rattle.list_words.specs.declared.leaf_lists.Phase.TheVariants.{Fresh, Shut}
use Rattle.list_words.proofs.plain_lists.PlainListsLeafLists.open_list.Goals as goal

open_chain : (owned : Bool) (q : PlainList) → q.claimed ≡ [] → q.owned ≡ [] → chain owned (opened_list q) ≡ chain owned q
open_chain true q none_claimed none_owned = sym none_owned
open_chain false q none_claimed none_owned = sym none_claimed

fresh_is_unshut : Fresh ≡ Shut → ⊥
fresh_is_unshut e = cc

pub invariant_of-self : goal.invariant_of-self
invariant_of-self c =
    let low : c.args.list < length c.self.inside.rows.items =
    within_rows (plain_of c.self.inside) c.args.self.now c.args.list c.self.view_is c.requires.below in
    let is : c.index_mut-row.result.now ≡ list_in c.self.inside.rows.items c.args.list =
    list_is c.self.inside.rows.items c.args.list c.index_mut-row.result.now low c.index_mut-row.ensures.value in
    let was : (list_in c.self.inside.rows.items c.args.list).phase ≡ Fresh =
    fresh_phase (plain_of c.self.inside) c.args.self.now c.args.list c.self.view_is c.requires.new in
    let same : SameShape c.open.new.self (list_in c.self.inside.rows.items c.args.list) = record {
      chains = λ owned.
          ap (chain owned) c.open.ensures.opened
          ∙ open_chain owned c.index_mut-row.result.now c.open.ensures.empty.0 c.open.ensures.empty.1 ∙ ap (chain owned) is;
      as_shut = ap (λ (q : PlainList). is_shut q.phase) c.open.ensures.opened ∙ sym (ap is_shut was);
      still = λ shut_now. absurd (fresh_is_unshut (sym was ∙ shut_now));
    } in
    record {
      homed = homed-same c.self.inside.rows.items c.self.inside.homes.items c.self.inside.pool c.args.list c.open.new.self c.self.invariant.homed low same;
      summed = summed-same c.self.inside.rows.items c.self.inside.pool c.self.inside.held
          (length c.self.inside.order.items) c.args.list c.open.new.self c.self.invariant.summed low same;
      ordered = ordered-same c.self.inside.rows.items c.self.inside.order.items c.self.inside.cleared c.self.inside.out.items c.self.inside.seats
          c.args.list c.open.new.self c.self.invariant.ordered low same;
      order_room = c.self.invariant.order_room;
      out_room = c.self.invariant.out_room;
      grants_room = c.self.invariant.grants_room;
      items_room = c.self.invariant.items_room;
      no_grants = c.self.invariant.no_grants;
      no_answers = c.self.invariant.no_answers;
      few_lists = c.self.invariant.few_lists;
      few_chunks = c.self.invariant.few_chunks;
      few_given = c.self.invariant.few_given;
    }

pub returns-clause-store : goal.returns-clause-store
returns-clause-store c =
    let low : c.args.list < length c.self.inside.rows.items =
    within_rows (plain_of c.self.inside) c.args.self.now c.args.list c.self.view_is c.requires.below in
    let is : c.index_mut-row.result.now ≡ list_in c.self.inside.rows.items c.args.list =
    list_is c.self.inside.rows.items c.args.list c.index_mut-row.result.now low c.index_mut-row.ensures.value in
    store_changed (plain_of c.self.inside) c.args.list c.index_mut-row.result.now c.open.new.self opened is (ap row_of c.open.ensures.opened)
    ∙ ap (λ p. with_row (store_of p) c.args.list (opened (row (store_of p) c.args.list))) c.self.view_is

pub returns-clause-known : goal.returns-clause-known
returns-clause-known c =
    let low : c.args.list < length c.self.inside.rows.items =
    within_rows (plain_of c.self.inside) c.args.self.now c.args.list c.self.view_is c.requires.below in
    let is : c.index_mut-row.result.now ≡ list_in c.self.inside.rows.items c.args.list =
    list_is c.self.inside.rows.items c.args.list c.index_mut-row.result.now low c.index_mut-row.ensures.value in
    subst (λ p. Keeps (Knows p) (Knows (with_list (plain_of c.self.inside) c.args.list c.open.new.self))) c.self.view_is
    (known_changed (plain_of c.self.inside) c.args.list c.index_mut-row.result.now c.open.new.self low is (λ owned x d i at. absurd (nothing_stands owned c.index_mut-row.result.now x d i c.open.ensures.empty.0 c.open.ensures.empty.1 at)))

pub returns-clause-same_filed : goal.returns-clause-same_filed
returns-clause-same_filed c =
    let low : c.args.list < length c.self.inside.rows.items =
    within_rows (plain_of c.self.inside) c.args.self.now c.args.list c.self.view_is c.requires.below in
    let is : c.index_mut-row.result.now ≡ list_in c.self.inside.rows.items c.args.list =
    list_is c.self.inside.rows.items c.args.list c.index_mut-row.result.now low c.index_mut-row.ensures.value in
    subst (λ p. SameFiled p (with_list (plain_of c.self.inside) c.args.list c.open.new.self)) c.self.view_is
    (filed_changed (plain_of c.self.inside) c.args.list c.index_mut-row.result.now c.open.new.self low is (ap (λ (q : PlainList). q.filed) c.open.ensures.opened ∙ sym c.open.ensures.empty.2))

pub returns-clause-stays : goal.returns-clause-stays
returns-clause-stays c =
    let low : c.args.list < length c.self.inside.rows.items =
    within_rows (plain_of c.self.inside) c.args.self.now c.args.list c.self.view_is c.requires.below in
    let is : c.index_mut-row.result.now ≡ list_in c.self.inside.rows.items c.args.list =
    list_is c.self.inside.rows.items c.args.list c.index_mut-row.result.now low c.index_mut-row.ensures.value in
    subst (λ (p : Plain). StayFiled p.lists (set c.self.inside.rows.items c.args.list c.open.new.self)) c.self.view_is
    (stay_changed c.self.inside.rows.items c.args.list c.index_mut-row.result.now c.open.new.self low is
    (λ owned x d i at. absurd (nothing_stands owned c.index_mut-row.result.now x d i c.open.ensures.empty.0 c.open.ensures.empty.1 at))
    (λ shut_now. absurd (differ (sym (ap (λ (q : PlainList). q.phase) is ∙ fresh_phase (plain_of c.self.inside) c.args.self.now c.args.list c.self.view_is c.requires.new) ∙ shut_now))))
  where
    differ : Fresh ≡ Shut → ⊥
    differ e = cc

pub returns-clause-kept : goal.returns-clause-kept
returns-clause-kept c = slots_stay _ _ (returns-clause-stays c)

pub returns-clause-borne : goal.returns-clause-borne
returns-clause-borne c = λ f borne. borne_same _ _ (returns-clause-stays c) (ap (λ (p : Plain). p.out) c.self.view_is) f borne
