use Rattle.std.proofs.Common.{◌≡◌, ℕ, ◌+◌, ◌<◌, ◌≤◌, ◌*◌, List, [], ◌∷◌, ◌++◌, length, map, set, Some, ap, sym, subst, ◌∙◌, arith}
use Rattle.std.specs.List.{Contains, slice_get}
use Rattle.std.proofs.lemmas.List.{length-append, length-map, length-set}
use Rattle.list_words.specs.Store.{Row, AreMarks, Keeps, is_shut, row, shut_now}
use Rattle.list_words.specs.PlainRows.{PlainList, items_of, row_of, shut_list}
use Rattle.list_words.specs.Plain.{Plain, Knows, chain, chain_items, chunk_count, list_in, store_of, with_list}
use Rattle.list_words.specs.PlainKept.{AreOrdered, AreSummed, plain_of}
use Rattle.list_words.specs.declared.leaf_lists.Phase.TheVariants.{Open}
use Rattle.list_words.proofs.ChunkLaws.{summed-shut}
use Rattle.list_words.proofs.MarkLaws.{found_stands, marks_by}
use Rattle.list_words.proofs.PlainLaws.{homed-set, list_in-set_same, row-map}
use Rattle.list_words.proofs.SeatLaws.{ordered-shut}
use Rattle.list_words.proofs.StoreLaws.{held-le, known_same, list_is, open_low, open_phase, shut-le, shut_found, stands_among, store_shut, swept_slots}
use Rattle.list_words.specs.Plain.{SameFiled}
use Rattle.list_words.proofs.StoreLaws.{filed_changed}
use Rattle.list_words.proofs.SlotLaws.{borne_stays, slots_stay, stay_changed, still_out_later}
use Rattle.list_words.specs.Plain.{HasSlot, StayFiled}
use Rattle.std.proofs.Common.{get_or}
use Rattle.list_words.proofs.StoreLaws.{stands_same}
use Rattle.list_words.proofs.plain_lists.PlainListsLeafLists.shut_and_sweep.Goals as goal

pub overflow_add-self-2 : goal.overflow_add-self-2
overflow_add-self-2 c =
    let low : c.args.list < length c.self.inside.rows.items = open_low (plain_of c.self.inside) c.args.self.now c.args.list c.self.view_is c.requires.takes in
    let L : PlainList = list_in c.self.inside.rows.items c.args.list in
    let is : c.index_mut-row.result.now ≡ L = list_is c.self.inside.rows.items c.args.list c.index_mut-row.result.now low c.index_mut-row.ensures.value in
    let open_now : L.phase ≡ Open = open_phase (plain_of c.self.inside) c.args.self.now c.args.list c.self.view_is c.requires.takes in
    let e : c.sweep.new.self ≡ shut_list L = c.sweep.ensures.shut ∙ ap shut_list is in
    let sums : AreSummed (set c.self.inside.rows.items c.args.list c.sweep.new.self) c.self.inside.pool (c.self.inside.held + chunk_count L) (length c.self.inside.order.items + 1) =
    summed-shut c.self.inside.rows.items c.self.inside.pool c.self.inside.held (length c.self.inside.order.items) c.args.list c.sweep.new.self c.self.invariant.summed low (ap chunk_count e) (ap (λ (q : PlainList). is_shut q.phase) e) (ap is_shut open_now) in
    let count : length c.claimed.result.now + length c.owned.result.now ≡ chunk_count L =
    let first : length c.claimed.result.now ≡ length L.claimed = ap length (c.claimed.ensures ∙ ap (λ (q : PlainList). q.claimed) e) in
    let second : length c.owned.result.now ≡ length L.owned = ap length (c.owned.ensures ∙ ap (λ (q : PlainList). q.owned) e) in omega arith in
    omega (arith, count, held-le (set c.self.inside.rows.items c.args.list c.sweep.new.self) c.self.inside.pool (c.self.inside.held + chunk_count L) (length c.self.inside.order.items + 1) sums, c.self.invariant.few_chunks)

pub push_within-requires : goal.push_within-requires
push_within-requires c =
    let low : c.args.list < length c.self.inside.rows.items = open_low (plain_of c.self.inside) c.args.self.now c.args.list c.self.view_is c.requires.takes in
    let L : PlainList = list_in c.self.inside.rows.items c.args.list in
    let is : c.index_mut-row.result.now ≡ L = list_is c.self.inside.rows.items c.args.list c.index_mut-row.result.now low c.index_mut-row.ensures.value in
    let open_now : L.phase ≡ Open = open_phase (plain_of c.self.inside) c.args.self.now c.args.list c.self.view_is c.requires.takes in
    let e : c.sweep.new.self ≡ shut_list L = c.sweep.ensures.shut ∙ ap shut_list is in
    let sums : AreSummed (set c.self.inside.rows.items c.args.list c.sweep.new.self) c.self.inside.pool (c.self.inside.held + chunk_count L) (length c.self.inside.order.items + 1) =
    summed-shut c.self.inside.rows.items c.self.inside.pool c.self.inside.held (length c.self.inside.order.items) c.args.list c.sweep.new.self c.self.invariant.summed low (ap chunk_count e) (ap (λ (q : PlainList). is_shut q.phase) e) (ap is_shut open_now) in
    let count : length c.claimed.result.now + length c.owned.result.now ≡ chunk_count L =
    let first : length c.claimed.result.now ≡ length L.claimed = ap length (c.claimed.ensures ∙ ap (λ (q : PlainList). q.claimed) e) in
    let second : length c.owned.result.now ≡ length L.owned = ap length (c.owned.ensures ∙ ap (λ (q : PlainList). q.owned) e) in omega arith in
    let few : length c.self.inside.order.items + 1 ≤ length c.self.inside.rows.items =
    omega (arith, sums.shuts, shut-le (set c.self.inside.rows.items c.args.list c.sweep.new.self), length-set c.self.inside.rows.items c.args.list c.sweep.new.self) in
    omega (arith, few, c.self.inside.order.ok.0, c.self.inside.rows.ok.0, c.self.invariant.order_room)

pub push_within-requires-2 : goal.push_within-requires-2
push_within-requires-2 c =
    let low : c.args.list < length c.self.inside.rows.items = open_low (plain_of c.self.inside) c.args.self.now c.args.list c.self.view_is c.requires.takes in
    let L : PlainList = list_in c.self.inside.rows.items c.args.list in
    let is : c.index_mut-row.result.now ≡ L = list_is c.self.inside.rows.items c.args.list c.index_mut-row.result.now low c.index_mut-row.ensures.value in
    let open_now : L.phase ≡ Open = open_phase (plain_of c.self.inside) c.args.self.now c.args.list c.self.view_is c.requires.takes in
    let e : c.sweep.new.self ≡ shut_list L = c.sweep.ensures.shut ∙ ap shut_list is in
    let sums : AreSummed (set c.self.inside.rows.items c.args.list c.sweep.new.self) c.self.inside.pool (c.self.inside.held + chunk_count L) (length c.self.inside.order.items + 1) =
    summed-shut c.self.inside.rows.items c.self.inside.pool c.self.inside.held (length c.self.inside.order.items) c.args.list c.sweep.new.self c.self.invariant.summed low (ap chunk_count e) (ap (λ (q : PlainList). is_shut q.phase) e) (ap is_shut open_now) in
    let count : length c.claimed.result.now + length c.owned.result.now ≡ chunk_count L =
    let first : length c.claimed.result.now ≡ length L.claimed = ap length (c.claimed.ensures ∙ ap (λ (q : PlainList). q.claimed) e) in
    let second : length c.owned.result.now ≡ length L.owned = ap length (c.owned.ensures ∙ ap (λ (q : PlainList). q.owned) e) in omega arith in
    let few : length c.self.inside.order.items + 1 ≤ length c.self.inside.rows.items =
    omega (arith, sums.shuts, shut-le (set c.self.inside.rows.items c.args.list c.sweep.new.self), length-set c.self.inside.rows.items c.args.list c.sweep.new.self) in
    omega (arith, few, c.self.inside.out.ok.0, c.self.inside.rows.ok.0, c.self.invariant.out_room, c.self.invariant.ordered.births)

pub invariant_of-self : goal.invariant_of-self
invariant_of-self c =
    let low : c.args.list < length c.self.inside.rows.items = open_low (plain_of c.self.inside) c.args.self.now c.args.list c.self.view_is c.requires.takes in
    let L : PlainList = list_in c.self.inside.rows.items c.args.list in
    let is : c.index_mut-row.result.now ≡ L = list_is c.self.inside.rows.items c.args.list c.index_mut-row.result.now low c.index_mut-row.ensures.value in
    let open_now : L.phase ≡ Open = open_phase (plain_of c.self.inside) c.args.self.now c.args.list c.self.view_is c.requires.takes in
    let e : c.sweep.new.self ≡ shut_list L = c.sweep.ensures.shut ∙ ap shut_list is in
    let sums : AreSummed (set c.self.inside.rows.items c.args.list c.sweep.new.self) c.self.inside.pool (c.self.inside.held + chunk_count L) (length c.self.inside.order.items + 1) =
    summed-shut c.self.inside.rows.items c.self.inside.pool c.self.inside.held (length c.self.inside.order.items) c.args.list c.sweep.new.self c.self.invariant.summed low (ap chunk_count e) (ap (λ (q : PlainList). is_shut q.phase) e) (ap is_shut open_now) in
    let count : length c.claimed.result.now + length c.owned.result.now ≡ chunk_count L =
    let first : length c.claimed.result.now ≡ length L.claimed = ap length (c.claimed.ensures ∙ ap (λ (q : PlainList). q.claimed) e) in
    let second : length c.owned.result.now ≡ length L.owned = ap length (c.owned.ensures ∙ ap (λ (q : PlainList). q.owned) e) in omega arith in
    let longer : length c.push_within.new.values.items ≡ length c.self.inside.order.items + 1 = ap length c.push_within.ensures.items ∙ omega (arith, length-append c.self.inside.order.items (c.args.list ∷ [])) in
    record {
      homed = homed-set c.self.inside.rows.items c.self.inside.homes.items c.self.inside.pool c.args.list c.sweep.new.self c.self.invariant.homed low (λ owned. ap (chain owned) e);
      summed = subst (λ n. AreSummed (set c.self.inside.rows.items c.args.list c.sweep.new.self) c.self.inside.pool (c.self.inside.held + n) (length c.push_within.new.values.items)) (sym count)
          (subst (λ m. AreSummed (set c.self.inside.rows.items c.args.list c.sweep.new.self) c.self.inside.pool (c.self.inside.held + chunk_count L) m) (sym longer) sums);
      ordered = subst (λ (xs : List ℕ). AreOrdered (set c.self.inside.rows.items c.args.list c.sweep.new.self) xs c.self.inside.cleared c.push_within-2.new.values.items c.self.inside.seats) (sym c.push_within.ensures.items)
          (subst (λ (xs : List ℕ). AreOrdered (set c.self.inside.rows.items c.args.list c.sweep.new.self) (c.self.inside.order.items ++ c.args.list ∷ []) c.self.inside.cleared xs c.self.inside.seats) (sym c.push_within-2.ensures.items)
          (ordered-shut c.self.inside.rows.items c.self.inside.order.items c.self.inside.cleared c.self.inside.out.items c.self.inside.seats c.args.list c.sweep.new.self c.self.invariant.ordered low (ap (λ (q : PlainList). q.phase) e)));
      order_room = omega (arith, c.self.invariant.order_room, c.push_within.ensures.capacity);
      out_room = omega (arith, c.self.invariant.out_room, c.push_within-2.ensures.capacity);
      grants_room = c.self.invariant.grants_room;
      items_room = c.self.invariant.items_room;
      no_grants = c.self.invariant.no_grants;
      no_answers = c.self.invariant.no_answers;
      few_lists = c.self.invariant.few_lists;
      few_chunks = c.self.invariant.few_chunks;
      few_given = c.self.invariant.few_given;
    }

pub returns-clause-store : goal.returns-clause-store
returns-clause-store c =
    let low : c.args.list < length c.self.inside.rows.items = open_low (plain_of c.self.inside) c.args.self.now c.args.list c.self.view_is c.requires.takes in
    let L : PlainList = list_in c.self.inside.rows.items c.args.list in
    let is : c.index_mut-row.result.now ≡ L = list_is c.self.inside.rows.items c.args.list c.index_mut-row.result.now low c.index_mut-row.ensures.value in
    let there : row (store_of c.args.self.now) c.args.list ≡ row_of c.index_mut-row.result.now = row-map c.args.self.now.lists c.args.list ∙ ap (λ (p : Plain). row_of (list_in p.lists c.args.list)) (sym c.self.view_is) ∙ ap row_of (sym is) in
    let few : length (map Some c.index_mut-row.result.now.filed) ≤ (row (store_of c.args.self.now) c.args.list).granted =
    subst (λ (r : Row). length (map Some c.index_mut-row.result.now.filed) ≤ r.granted) (sym there) (let long : length (map Some c.index_mut-row.result.now.filed) ≡ length c.index_mut-row.result.now.filed = length-map c.index_mut-row.result.now.filed (λ x. Some x) in omega (arith, c.sweep.ensures.granted)) in (
      map Some c.index_mut-row.result.now.filed,
      few,
      ap (λ (xs : List ℕ). store_of (record (plain_of c.self.inside) { lists = set c.self.inside.rows.items c.args.list c.sweep.new.self; order = xs; out = c.push_within-2.new.values.items })) c.push_within.ensures.items
          ∙ ap (λ (xs : List ℕ). store_of (record (plain_of c.self.inside) { lists = set c.self.inside.rows.items c.args.list c.sweep.new.self; order = c.self.inside.order.items ++ c.args.list ∷ []; out = xs })) c.push_within-2.ensures.items
          ∙ store_shut (plain_of c.self.inside) c.args.list c.index_mut-row.result.now c.sweep.new.self is c.sweep.ensures.shut
          ∙ ap (λ p. shut_now (store_of p) c.args.list (map Some c.index_mut-row.result.now.filed)) c.self.view_is,
    )

pub returns-clause-found : goal.returns-clause-found
returns-clause-found c =
    let low : c.args.list < length c.self.inside.rows.items = open_low (plain_of c.self.inside) c.args.self.now c.args.list c.self.view_is c.requires.takes in
    let L : PlainList = list_in c.self.inside.rows.items c.args.list in
    let is : c.index_mut-row.result.now ≡ L = list_is c.self.inside.rows.items c.args.list c.index_mut-row.result.now low c.index_mut-row.ensures.value in
    c.sweep.ensures.found ∙ ap (λ (xs : List ℕ). c.args.out.now.items ++ xs) (sym (shut_found (plain_of c.self.inside) c.args.list c.index_mut-row.result.now c.sweep.new.self low c.sweep.ensures.shut))

pub returns-clause-slots : goal.returns-clause-slots
returns-clause-slots c =
    let low : c.args.list < length c.self.inside.rows.items = open_low (plain_of c.self.inside) c.args.self.now c.args.list c.self.view_is c.requires.takes in
    let lists : List PlainList = set c.self.inside.rows.items c.args.list c.sweep.new.self in
    let here : list_in lists c.args.list ≡ c.sweep.new.self = list_in-set_same c.self.inside.rows.items c.args.list c.sweep.new.self low in
    let q : PlainList = c.sweep.new.self in
    let e : q ≡ shut_list c.index_mut-row.result.now = c.sweep.ensures.shut in
    let marks : AreMarks (HasSlot q) (length q.filed) (row_of q) = swept_slots q (ap (λ (b : PlainList). b.phase) e)
    (subst (λ (b : PlainList). length b.filed ≤ 256 * length b.claimed) (sym e) c.sweep.ensures.filed)
    (subst (λ (b : PlainList). length b.placed ≤ 256 * length b.owned) (sym e) c.sweep.ensures.placed) in
    subst (λ (r : Row). AreMarks (HasSlot (list_in lists c.args.list)) (length (list_in lists c.args.list).filed) r) (sym (row-map lists c.args.list))
    (subst (λ (b : PlainList). AreMarks (HasSlot b) (length b.filed) (row_of b)) (sym here) marks)

pub returns-clause-marks : goal.returns-clause-marks
returns-clause-marks c = marks_by _ _ (λ d k y shown x is. let at : HasSlot _ d k (Some x) = subst (HasSlot _ d k) is shown in (at.0, k, at.1)) _ _ (returns-clause-slots c)

pub returns-clause-stands : goal.returns-clause-stands
returns-clause-stands c = λ x inside. found_stands _ _ _ (returns-clause-marks c) x inside

pub returns-clause-swept : goal.returns-clause-swept
returns-clause-swept c = λ d x known.
    let low : c.args.list < length c.self.inside.rows.items = open_low (plain_of c.self.inside) c.args.self.now c.args.list c.self.view_is c.requires.takes in
    let L : PlainList = list_in c.self.inside.rows.items c.args.list in
    let is : c.index_mut-row.result.now ≡ L = list_is c.self.inside.rows.items c.args.list c.index_mut-row.result.now low c.index_mut-row.ensures.value in
    let there : list_in c.args.self.now.lists c.args.list ≡ c.index_mut-row.result.now = ap (λ (p : Plain). list_in p.lists c.args.list) (sym c.self.view_is) ∙ sym is in
    let inside : Contains (items_of c.index_mut-row.result.now) x = subst (λ (q : PlainList). Contains (items_of q) x) there (stands_among known.0 (list_in c.args.self.now.lists c.args.list) x d known.1 known.2) in
    subst (λ (xs : List ℕ). Contains xs x) (sym (shut_found (plain_of c.self.inside) c.args.list c.index_mut-row.result.now c.sweep.new.self low c.sweep.ensures.shut)) inside

pub returns-clause-known : goal.returns-clause-known
returns-clause-known c =
    let low : c.args.list < length c.self.inside.rows.items = open_low (plain_of c.self.inside) c.args.self.now c.args.list c.self.view_is c.requires.takes in
    let L : PlainList = list_in c.self.inside.rows.items c.args.list in
    let is : c.index_mut-row.result.now ≡ L = list_is c.self.inside.rows.items c.args.list c.index_mut-row.result.now low c.index_mut-row.ensures.value in
    subst (λ p. Keeps (Knows p) (Knows (with_list (plain_of c.self.inside) c.args.list c.sweep.new.self))) c.self.view_is
    (known_same (plain_of c.self.inside) c.args.list c.index_mut-row.result.now c.sweep.new.self low is (λ owned. ap (chain owned) c.sweep.ensures.shut) (λ owned. ap (chain_items owned) c.sweep.ensures.shut))

pub returns-clause-same_filed : goal.returns-clause-same_filed
returns-clause-same_filed c =
    let low : c.args.list < length c.self.inside.rows.items = open_low (plain_of c.self.inside) c.args.self.now c.args.list c.self.view_is c.requires.takes in
    let is : c.index_mut-row.result.now ≡ list_in c.self.inside.rows.items c.args.list = list_is c.self.inside.rows.items c.args.list c.index_mut-row.result.now low c.index_mut-row.ensures.value in
    subst (λ p. SameFiled p (with_list (plain_of c.self.inside) c.args.list c.sweep.new.self)) c.self.view_is
    (filed_changed (plain_of c.self.inside) c.args.list c.index_mut-row.result.now c.sweep.new.self low is (ap (λ (q : PlainList). q.filed) c.sweep.ensures.shut))

pub returns-clause-all : goal.returns-clause-all
returns-clause-all c =
    let low : c.args.list < length c.self.inside.rows.items = open_low (plain_of c.self.inside) c.args.self.now c.args.list c.self.view_is c.requires.takes in
    let is : c.index_mut-row.result.now ≡ list_in c.self.inside.rows.items c.args.list = list_is c.self.inside.rows.items c.args.list c.index_mut-row.result.now low c.index_mut-row.ensures.value in
    c.sweep.ensures.found ∙ ap (λ (q : PlainList). c.args.out.now.items ++ items_of q) is ∙ ap (λ (p : Plain). c.args.out.now.items ++ items_of (list_in p.lists c.args.list)) c.self.view_is

pub returns-clause-stays : goal.returns-clause-stays
returns-clause-stays c =
    let low : c.args.list < length c.self.inside.rows.items = open_low (plain_of c.self.inside) c.args.self.now c.args.list c.self.view_is c.requires.takes in
    let is : c.index_mut-row.result.now ≡ list_in c.self.inside.rows.items c.args.list = list_is c.self.inside.rows.items c.args.list c.index_mut-row.result.now low c.index_mut-row.ensures.value in
    subst (λ (p : Plain). StayFiled p.lists (set c.self.inside.rows.items c.args.list c.sweep.new.self)) c.self.view_is
    (stay_changed c.self.inside.rows.items c.args.list c.index_mut-row.result.now c.sweep.new.self low is
    (λ owned x d i at. stands_same owned c.index_mut-row.result.now c.sweep.new.self (ap (chain owned) c.sweep.ensures.shut) (ap (chain_items owned) c.sweep.ensures.shut) x d i at)
    (λ e. ap (λ (q : PlainList). q.phase) c.sweep.ensures.shut))

pub returns-clause-kept : goal.returns-clause-kept
returns-clause-kept c = slots_stay _ _ (returns-clause-stays c)

pub returns-clause-borne : goal.returns-clause-borne
returns-clause-borne c = λ f borne.
    let out : c.push_within-2.new.values.items ≡ c.args.self.now.out ++ 0 ∷ [] = c.push_within-2.ensures.items ∙ ap (λ (p : Plain). p.out ++ 0 ∷ []) c.self.view_is in
    borne_stays _ _ (returns-clause-stays c) f (λ some. subst (λ (xs : List ℕ). 0 < get_or xs f.birth 0) (sym out) (still_out_later c.args.self.now.out f.birth some)) borne
