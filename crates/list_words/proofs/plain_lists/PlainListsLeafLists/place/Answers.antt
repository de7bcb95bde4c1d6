use Rattle.std.proofs.Common.{◌≡◌, true, ◌/◌, ◌%◌, ◌<◌, length, Some, ap, refl, sym, subst, ◌∙◌}
use Rattle.std.specs.List.{slice_get}
use Rattle.list_words.specs.Store.{Row, Keeps, placed_in, row, with_row}
use Rattle.list_words.specs.PlainRows.{PlainList, placed_list, row_of}
use Rattle.list_words.specs.Plain.{Knows, StandsAt, list_in, store_of, with_list}
use Rattle.list_words.specs.PlainKept.{plain_of}
use Rattle.list_words.proofs.StoreLaws.{SameShape, homed-same, known_changed, known_here, list_is, more_placed, open_low, ordered-same, placed_there, same_shape, store_changed, summed-same}
use Rattle.list_words.specs.Plain.{SameFiled}
use Rattle.list_words.proofs.StoreLaws.{filed_changed}
use Rattle.list_words.proofs.SlotLaws.{borne_same, slot_here, slots_stay, stay_changed}
use Rattle.list_words.specs.Plain.{Plain, StayFiled}
use Rattle.std.proofs.Common.{set}
use Rattle.list_words.proofs.plain_lists.PlainListsLeafLists.place.Goals as goal

pub invariant_of-self : goal.invariant_of-self
invariant_of-self c =
    let low : c.args.list < length c.self.inside.rows.items = open_low (plain_of c.self.inside) c.args.self.now c.args.list c.self.view_is c.requires.takes in
    let is : c.index_mut-row.result.now ≡ list_in c.self.inside.rows.items c.args.list = list_is c.self.inside.rows.items c.args.list c.index_mut-row.result.now low c.index_mut-row.ensures.value in
    let same : SameShape c.place.new.self (list_in c.self.inside.rows.items c.args.list) =
    same_shape c.place.new.self (list_in c.self.inside.rows.items c.args.list) (placed_list (list_in c.self.inside.rows.items c.args.list) c.args.item)
    (c.place.ensures.placed ∙ ap (λ (q : PlainList). placed_list q c.args.item) is) (λ owned. refl) refl in
    record {
      homed = homed-same c.self.inside.rows.items c.self.inside.homes.items c.self.inside.pool c.args.list c.place.new.self c.self.invariant.homed low same;
      summed = summed-same c.self.inside.rows.items c.self.inside.pool c.self.inside.held (length c.self.inside.order.items) c.args.list c.place.new.self c.self.invariant.summed low same;
      ordered = ordered-same c.self.inside.rows.items c.self.inside.order.items c.self.inside.cleared c.self.inside.out.items c.self.inside.seats c.args.list c.place.new.self c.self.invariant.ordered low same;
      order_room = c.self.invariant.order_room;
      out_room = c.self.invariant.out_room;
      grants_room = c.self.invariant.grants_room;
      items_room = c.self.invariant.items_room;
      no_grants = c.self.invariant.no_grants;
      no_answers = c.self.invariant.no_answers;
      few_lists = c.self.invariant.few_lists;
      few_chunks = c.self.invariant.few_chunks;
      few_given = c.self.invariant.few_given;
    }

pub returns-clause-store : goal.returns-clause-store
returns-clause-store c =
    let low : c.args.list < length c.self.inside.rows.items = open_low (plain_of c.self.inside) c.args.self.now c.args.list c.self.view_is c.requires.takes in
    let is : c.index_mut-row.result.now ≡ list_in c.self.inside.rows.items c.args.list = list_is c.self.inside.rows.items c.args.list c.index_mut-row.result.now low c.index_mut-row.ensures.value in
    store_changed (plain_of c.self.inside) c.args.list c.index_mut-row.result.now c.place.new.self (λ (r : Row). placed_in r c.args.item) is (ap row_of c.place.ensures.placed)
    ∙ ap (λ p. with_row (store_of p) c.args.list (placed_in (row (store_of p) c.args.list) c.args.item)) c.self.view_is

pub returns-clause-placed : goal.returns-clause-placed
returns-clause-placed c =
    let low : c.args.list < length c.self.inside.rows.items = open_low (plain_of c.self.inside) c.args.self.now c.args.list c.self.view_is c.requires.takes in
    let is : c.index_mut-row.result.now ≡ list_in c.self.inside.rows.items c.args.list = list_is c.self.inside.rows.items c.args.list c.index_mut-row.result.now low c.index_mut-row.ensures.value in
    let chunk : slice_get c.index_mut-row.result.now.owned (length c.index_mut-row.result.now.placed / 256) ≡ Some c.place.result.0 = c.place.ensures.chunk in
    known_here (plain_of c.self.inside) c.args.list c.place.result.0 c.args.item c.place.new.self low
    (true, length c.index_mut-row.result.now.placed % 256, subst (λ (q : PlainList). StandsAt true q c.args.item c.place.result.0 (length c.index_mut-row.result.now.placed % 256)) (sym c.place.ensures.placed) (placed_there c.index_mut-row.result.now c.args.item c.place.result.0 chunk))

pub returns-clause-known : goal.returns-clause-known
returns-clause-known c =
    let low : c.args.list < length c.self.inside.rows.items = open_low (plain_of c.self.inside) c.args.self.now c.args.list c.self.view_is c.requires.takes in
    let is : c.index_mut-row.result.now ≡ list_in c.self.inside.rows.items c.args.list = list_is c.self.inside.rows.items c.args.list c.index_mut-row.result.now low c.index_mut-row.ensures.value in
    subst (λ p. Keeps (Knows p) (Knows (with_list (plain_of c.self.inside) c.args.list c.place.new.self))) c.self.view_is
    (known_changed (plain_of c.self.inside) c.args.list c.index_mut-row.result.now c.place.new.self low is
    (λ owned x d i at. subst (λ (q : PlainList). StandsAt owned q x d i) (sym c.place.ensures.placed) (more_placed owned c.index_mut-row.result.now c.args.item x d i at)))

pub returns-clause-same_filed : goal.returns-clause-same_filed
returns-clause-same_filed c =
    let low : c.args.list < length c.self.inside.rows.items = open_low (plain_of c.self.inside) c.args.self.now c.args.list c.self.view_is c.requires.takes in
    let is : c.index_mut-row.result.now ≡ list_in c.self.inside.rows.items c.args.list = list_is c.self.inside.rows.items c.args.list c.index_mut-row.result.now low c.index_mut-row.ensures.value in
    subst (λ p. SameFiled p (with_list (plain_of c.self.inside) c.args.list c.place.new.self)) c.self.view_is
    (filed_changed (plain_of c.self.inside) c.args.list c.index_mut-row.result.now c.place.new.self low is (ap (λ (q : PlainList). q.filed) c.place.ensures.placed))

pub returns-clause-stays : goal.returns-clause-stays
returns-clause-stays c =
    let low : c.args.list < length c.self.inside.rows.items = open_low (plain_of c.self.inside) c.args.self.now c.args.list c.self.view_is c.requires.takes in
    let is : c.index_mut-row.result.now ≡ list_in c.self.inside.rows.items c.args.list = list_is c.self.inside.rows.items c.args.list c.index_mut-row.result.now low c.index_mut-row.ensures.value in
    subst (λ (p : Plain). StayFiled p.lists (set c.self.inside.rows.items c.args.list c.place.new.self)) c.self.view_is
    (stay_changed c.self.inside.rows.items c.args.list c.index_mut-row.result.now c.place.new.self low is
    (λ owned x d i at. subst (λ (q : PlainList). StandsAt owned q x d i) (sym c.place.ensures.placed) (more_placed owned c.index_mut-row.result.now c.args.item x d i at))
    (λ e. ap (λ (q : PlainList). q.phase) c.place.ensures.placed ∙ e))

pub returns-clause-kept : goal.returns-clause-kept
returns-clause-kept c = slots_stay _ _ (returns-clause-stays c)

pub returns-clause-borne : goal.returns-clause-borne
returns-clause-borne c = λ f borne. borne_same _ _ (returns-clause-stays c) (ap (λ (p : Plain). p.out) c.self.view_is) f borne

pub returns-clause-shown : goal.returns-clause-shown
returns-clause-shown c =
    let low : c.args.list < length c.self.inside.rows.items = open_low (plain_of c.self.inside) c.args.self.now c.args.list c.self.view_is c.requires.takes in
    let chunk : slice_get c.index_mut-row.result.now.owned (length c.index_mut-row.result.now.placed / 256) ≡ Some c.place.result.0 = c.place.ensures.chunk in
    let there : StandsAt true (placed_list c.index_mut-row.result.now c.args.item) c.args.item c.place.result.0 (length c.index_mut-row.result.now.placed % 256) =
    placed_there c.index_mut-row.result.now c.args.item c.place.result.0 chunk in
    slot_here c.self.inside.rows.items c.args.list c.place.new.self low c.place.result.0 c.place.result.1 c.args.item
    (true, subst (λ k. StandsAt true c.place.new.self c.args.item c.place.result.0 k) (sym c.place.ensures.slot) (subst (λ (q : PlainList). StandsAt true q c.args.item c.place.result.0 (length c.index_mut-row.result.now.placed % 256)) (sym c.place.ensures.placed) there))
