use Rattle.std.proofs.Common.{◌≡◌, ◌<◌, length, ap, refl, subst, ◌∙◌}
use Rattle.list_words.specs.Store.{Row, Keeps, roomier, row, with_row}
use Rattle.list_words.specs.PlainRows.{PlainList, roomier_list, row_of}
use Rattle.list_words.specs.Plain.{Knows, chain, chain_items, list_in, store_of, with_list}
use Rattle.list_words.specs.PlainKept.{plain_of}
use Rattle.list_words.proofs.StoreLaws.{SameShape, homed-same, known_same, list_is, ordered-same, same_shape, store_changed, summed-same, within_rows}
use Rattle.list_words.specs.Plain.{SameFiled}
use Rattle.list_words.proofs.StoreLaws.{filed_changed}
use Rattle.list_words.proofs.SlotLaws.{borne_same, slots_stay, stay_changed}
use Rattle.list_words.specs.Plain.{Plain, StayFiled}
use Rattle.std.proofs.Common.{set}
use Rattle.list_words.proofs.StoreLaws.{stands_same}
use Rattle.list_words.proofs.plain_lists.PlainListsLeafLists.reserve.Goals as goal

pub returns-in_err-reserve-clause-known : goal.returns-in_err-reserve-clause-known
returns-in_err-reserve-clause-known c =
    let low : c.args.list < length c.self.inside.rows.items = within_rows (plain_of c.self.inside) c.args.self.now c.args.list c.self.view_is c.requires in
    let is : c.index_mut-row.result.now ≡ list_in c.self.inside.rows.items c.args.list = list_is c.self.inside.rows.items c.args.list c.index_mut-row.result.now low c.index_mut-row.ensures.value in
    subst (λ p. Keeps (Knows p) (Knows (with_list (plain_of c.self.inside) c.args.list c.reserve.new.self))) c.self.view_is
    (known_same (plain_of c.self.inside) c.args.list c.index_mut-row.result.now c.reserve.new.self low is (λ owned. ap (chain owned) c.in_err-reserve.ensures.err) (λ owned. ap (chain_items owned) c.in_err-reserve.ensures.err))

pub invariant_of-self-2 : goal.invariant_of-self-2
invariant_of-self-2 c =
    let low : c.args.list < length c.self.inside.rows.items = within_rows (plain_of c.self.inside) c.args.self.now c.args.list c.self.view_is c.requires in
    let is : c.index_mut-row.result.now ≡ list_in c.self.inside.rows.items c.args.list = list_is c.self.inside.rows.items c.args.list c.index_mut-row.result.now low c.index_mut-row.ensures.value in
    let same : SameShape c.reserve.new.self (list_in c.self.inside.rows.items c.args.list) =
    same_shape c.reserve.new.self (list_in c.self.inside.rows.items c.args.list) (roomier_list (list_in c.self.inside.rows.items c.args.list) c.args.claimed c.args.owned)
    (c.in_ok-reserve.ensures.ok ∙ ap (λ (q : PlainList). roomier_list q c.args.claimed c.args.owned) is) (λ owned. refl) refl in
    record {
      homed = homed-same c.self.inside.rows.items c.self.inside.homes.items c.self.inside.pool c.args.list c.reserve.new.self c.self.invariant.homed low same;
      summed = summed-same c.self.inside.rows.items c.self.inside.pool c.self.inside.held (length c.self.inside.order.items) c.args.list c.reserve.new.self c.self.invariant.summed low same;
      ordered = ordered-same c.self.inside.rows.items c.self.inside.order.items c.self.inside.cleared c.self.inside.out.items c.self.inside.seats c.args.list c.reserve.new.self c.self.invariant.ordered low same;
      order_room = c.self.invariant.order_room;
      out_room = c.self.invariant.out_room;
      grants_room = c.self.invariant.grants_room;
      items_room = c.self.invariant.items_room;
      no_grants = c.self.invariant.no_grants;
      no_answers = c.self.invariant.no_answers;
      few_lists = c.self.invariant.few_lists;
      few_chunks = c.self.invariant.few_chunks;
      few_given = c.self.invariant.few_given;
    }

pub returns-clause-ok : goal.returns-clause-ok
returns-clause-ok c =
    let low : c.args.list < length c.self.inside.rows.items = within_rows (plain_of c.self.inside) c.args.self.now c.args.list c.self.view_is c.requires in
    let is : c.index_mut-row.result.now ≡ list_in c.self.inside.rows.items c.args.list = list_is c.self.inside.rows.items c.args.list c.index_mut-row.result.now low c.index_mut-row.ensures.value in
    store_changed (plain_of c.self.inside) c.args.list c.index_mut-row.result.now c.reserve.new.self (λ (r : Row). roomier r c.args.claimed c.args.owned) is (ap row_of c.in_ok-reserve.ensures.ok)
    ∙ ap (λ p. with_row (store_of p) c.args.list (roomier (row (store_of p) c.args.list) c.args.claimed c.args.owned)) c.self.view_is

pub returns-clause-known : goal.returns-clause-known
returns-clause-known c =
    let low : c.args.list < length c.self.inside.rows.items = within_rows (plain_of c.self.inside) c.args.self.now c.args.list c.self.view_is c.requires in
    let is : c.index_mut-row.result.now ≡ list_in c.self.inside.rows.items c.args.list = list_is c.self.inside.rows.items c.args.list c.index_mut-row.result.now low c.index_mut-row.ensures.value in
    subst (λ p. Keeps (Knows p) (Knows (with_list (plain_of c.self.inside) c.args.list c.reserve.new.self))) c.self.view_is
    (known_same (plain_of c.self.inside) c.args.list c.index_mut-row.result.now c.reserve.new.self low is (λ owned. ap (chain owned) c.in_ok-reserve.ensures.ok) (λ owned. ap (chain_items owned) c.in_ok-reserve.ensures.ok))

pub returns-in_err-reserve-clause-same_filed : goal.returns-in_err-reserve-clause-same_filed
returns-in_err-reserve-clause-same_filed c =
    let low : c.args.list < length c.self.inside.rows.items = within_rows (plain_of c.self.inside) c.args.self.now c.args.list c.self.view_is c.requires in
    let is : c.index_mut-row.result.now ≡ list_in c.self.inside.rows.items c.args.list = list_is c.self.inside.rows.items c.args.list c.index_mut-row.result.now low c.index_mut-row.ensures.value in
    subst (λ p. SameFiled p (with_list (plain_of c.self.inside) c.args.list c.reserve.new.self)) c.self.view_is
    (filed_changed (plain_of c.self.inside) c.args.list c.index_mut-row.result.now c.reserve.new.self low is (ap (λ (q : PlainList). q.filed) c.in_err-reserve.ensures.err))

pub returns-clause-same_filed : goal.returns-clause-same_filed
returns-clause-same_filed c =
    let low : c.args.list < length c.self.inside.rows.items = within_rows (plain_of c.self.inside) c.args.self.now c.args.list c.self.view_is c.requires in
    let is : c.index_mut-row.result.now ≡ list_in c.self.inside.rows.items c.args.list = list_is c.self.inside.rows.items c.args.list c.index_mut-row.result.now low c.index_mut-row.ensures.value in
    subst (λ p. SameFiled p (with_list (plain_of c.self.inside) c.args.list c.reserve.new.self)) c.self.view_is
    (filed_changed (plain_of c.self.inside) c.args.list c.index_mut-row.result.now c.reserve.new.self low is (ap (λ (q : PlainList). q.filed) c.in_ok-reserve.ensures.ok))

pub returns-in_err-reserve-clause-stays : goal.returns-in_err-reserve-clause-stays
returns-in_err-reserve-clause-stays c =
    let low : c.args.list < length c.self.inside.rows.items = within_rows (plain_of c.self.inside) c.args.self.now c.args.list c.self.view_is c.requires in
    let is : c.index_mut-row.result.now ≡ list_in c.self.inside.rows.items c.args.list = list_is c.self.inside.rows.items c.args.list c.index_mut-row.result.now low c.index_mut-row.ensures.value in
    subst (λ (p : Plain). StayFiled p.lists (set c.self.inside.rows.items c.args.list c.reserve.new.self)) c.self.view_is
    (stay_changed c.self.inside.rows.items c.args.list c.index_mut-row.result.now c.reserve.new.self low is
    (λ owned x d i at. stands_same owned c.index_mut-row.result.now c.reserve.new.self (ap (chain owned) c.in_err-reserve.ensures.err) (ap (chain_items owned) c.in_err-reserve.ensures.err) x d i at)
    (λ e. ap (λ (q : PlainList). q.phase) c.in_err-reserve.ensures.err ∙ e))

pub returns-in_err-reserve-clause-kept : goal.returns-in_err-reserve-clause-kept
returns-in_err-reserve-clause-kept c = slots_stay _ _ (returns-in_err-reserve-clause-stays c)

pub returns-in_err-reserve-clause-borne : goal.returns-in_err-reserve-clause-borne
returns-in_err-reserve-clause-borne c = λ f borne. borne_same _ _ (returns-in_err-reserve-clause-stays c) (ap (λ (p : Plain). p.out) c.self.view_is) f borne

pub returns-clause-stays : goal.returns-clause-stays
returns-clause-stays c =
    let low : c.args.list < length c.self.inside.rows.items = within_rows (plain_of c.self.inside) c.args.self.now c.args.list c.self.view_is c.requires in
    let is : c.index_mut-row.result.now ≡ list_in c.self.inside.rows.items c.args.list = list_is c.self.inside.rows.items c.args.list c.index_mut-row.result.now low c.index_mut-row.ensures.value in
    subst (λ (p : Plain). StayFiled p.lists (set c.self.inside.rows.items c.args.list c.reserve.new.self)) c.self.view_is
    (stay_changed c.self.inside.rows.items c.args.list c.index_mut-row.result.now c.reserve.new.self low is
    (λ owned x d i at. stands_same owned c.index_mut-row.result.now c.reserve.new.self (ap (chain owned) c.in_ok-reserve.ensures.ok) (ap (chain_items owned) c.in_ok-reserve.ensures.ok) x d i at)
    (λ e. ap (λ (q : PlainList). q.phase) c.in_ok-reserve.ensures.ok ∙ e))

pub returns-clause-kept : goal.returns-clause-kept
returns-clause-kept c = slots_stay _ _ (returns-clause-stays c)

pub returns-clause-borne : goal.returns-clause-borne
returns-clause-borne c = λ f borne. borne_same _ _ (returns-clause-stays c) (ap (λ (p : Plain). p.out) c.self.view_is) f borne
