use Rattle.std.proofs.Common.{◌≡◌, ◌+◌, ◌<◌, true, false, length, set, [], ◌∷◌, ap, refl, sym, subst, ◌∙◌, arith}
use Rattle.std.specs.FinSet as set_of
use Rattle.std.proofs.lemmas.List.{length-append}
use Rattle.chunk_pool.specs.Numbers.{Numbers, IsFree, without}
use Rattle.list_words.specs.Store.{Row, IsNextChunk, Keeps, lengthened, is_shut, row, with_chunk}
use Rattle.list_words.specs.PlainRows.{PlainList, lengthened_list, row_of}
use Rattle.list_words.specs.Plain.{Plain, Knows, StandsAt, chain, chunk_count, list_in, store_of, with_list}
use Rattle.list_words.specs.PlainKept.{AreHomed, AreSummed, home_of, plain_of}
use Rattle.list_words.specs.declared.leaf_lists.Phase.TheVariants.{Open}
use Rattle.list_words.proofs.ChunkLaws.{homed-more, len-without, summed-more}
use Rattle.list_words.proofs.PlainLaws.{ordered-set}
use Rattle.list_words.proofs.StoreLaws.{known_changed, list_is, next_chunk, open_low, open_phase, store_chunk, stands_lengthened}
use Rattle.list_words.specs.Plain.{SameFiled}
use Rattle.list_words.proofs.StoreLaws.{filed_changed}
use Rattle.list_words.proofs.SlotLaws.{borne_same, slots_stay, stay_changed}
use Rattle.list_words.specs.Plain.{Plain, StayFiled}
use Rattle.std.proofs.Common.{set}
use Rattle.list_words.proofs.plain_lists.PlainListsLeafLists.extend_owned.Goals as goal

pub invariant_of-self : goal.invariant_of-self
invariant_of-self c =
    let low : c.args.list < length c.self.inside.rows.items = open_low (plain_of c.self.inside) c.args.self.now c.args.list c.self.view_is c.requires.takes in
    let L : PlainList = list_in c.self.inside.rows.items c.args.list in
    let is : c.index_mut-row.result.now ≡ L = list_is c.self.inside.rows.items c.args.list c.index_mut-row.result.now low c.index_mut-row.ensures.value in
    let open_now : L.phase ≡ Open = open_phase (plain_of c.self.inside) c.args.self.now c.args.list c.self.view_is c.requires.takes in
    let e : c.lengthen.new.self ≡ lengthened_list L c.in-Some.chunk = c.lengthen.ensures ∙ ap (λ (q : PlainList). lengthened_list q c.in-Some.chunk) is in
    let free : IsFree c.self.inside.pool c.in-Some.chunk = c.in-Some.ensures.least.free in
    let small : c.in-Some.chunk < length c.self.inside.homes.items = omega (arith, c.in-Some.ensures.below, c.self.invariant.homed.size) in
    let rank : length c.owned.result.now ≡ length L.owned = ap length (c.owned.ensures ∙ ap (λ (q : PlainList). q.owned) is) in
    let open_still : is_shut c.lengthen.new.self.phase ≡ false = ap (λ (q : PlainList). is_shut q.phase) e ∙ ap is_shut open_now in
    let count : chunk_count c.lengthen.new.self ≡ chunk_count L + 1 = ap chunk_count e ∙ omega (arith, length-append L.owned (c.in-Some.chunk ∷ [])) in
    record {
      homed = subst (λ (p : Numbers). AreHomed (set c.self.inside.rows.items c.args.list c.lengthen.new.self) (set c.self.inside.homes.items c.in-Some.chunk (home_of c.args.list true (length c.owned.result.now))) p) (sym c.in-Some.ensures.after)
          (subst (λ n. AreHomed (set c.self.inside.rows.items c.args.list c.lengthen.new.self) (set c.self.inside.homes.items c.in-Some.chunk (home_of c.args.list true n)) (without c.self.inside.pool c.in-Some.chunk)) (sym rank)
          (homed-more c.self.inside.rows.items c.self.inside.homes.items c.self.inside.pool c.args.list c.in-Some.chunk c.lengthen.new.self true c.self.invariant.homed low free small (ap (chain true) e) (ap (chain false) e)));
      summed = subst (λ (p : Numbers). AreSummed (set c.self.inside.rows.items c.args.list c.lengthen.new.self) p c.self.inside.held (length c.self.inside.order.items)) (sym c.in-Some.ensures.after)
          (summed-more c.self.inside.rows.items c.self.inside.pool c.self.inside.held (length c.self.inside.order.items) c.args.list c.in-Some.chunk c.lengthen.new.self c.self.invariant.summed low free count open_still (ap is_shut open_now));
      ordered = ordered-set c.self.inside.rows.items c.self.inside.order.items c.self.inside.cleared c.self.inside.out.items c.self.inside.seats c.args.list c.lengthen.new.self c.self.invariant.ordered low (λ shut_now. ap (λ (q : PlainList). q.phase) e ∙ shut_now);
      order_room = c.self.invariant.order_room;
      out_room = c.self.invariant.out_room;
      grants_room = c.self.invariant.grants_room;
      items_room = c.self.invariant.items_room;
      no_grants = c.self.invariant.no_grants;
      no_answers = c.self.invariant.no_answers;
      few_lists = c.self.invariant.few_lists;
      few_chunks = let same : c.take.new.self.size ≡ c.self.inside.pool.size = ap (λ (p : Numbers). p.size) c.in-Some.ensures.after in omega (arith, c.self.invariant.few_chunks);
      few_given = c.self.invariant.few_given;
    }

pub returns-clause-store : goal.returns-clause-store
returns-clause-store c =
    let low : c.args.list < length c.self.inside.rows.items = open_low (plain_of c.self.inside) c.args.self.now c.args.list c.self.view_is c.requires.takes in
    let is : c.index_mut-row.result.now ≡ list_in c.self.inside.rows.items c.args.list = list_is c.self.inside.rows.items c.args.list c.index_mut-row.result.now low c.index_mut-row.ensures.value in
    let free : IsFree c.self.inside.pool c.in-Some.chunk = c.in-Some.ensures.least.free in (
      c.in-Some.chunk,
      subst (λ p. IsNextChunk (store_of p) c.in-Some.chunk) c.self.view_is
          (next_chunk (plain_of c.self.inside) c.self.inside.homes.items c.self.inside.pool c.in-Some.chunk refl c.self.invariant.homed
          c.in-Some.ensures.least c.in-Some.ensures.below),
      ap (λ (q : Numbers). store_of (record (plain_of c.self.inside) { lists = set c.self.inside.rows.items c.args.list c.lengthen.new.self; chunks = q.size; free = set_of.len q.free })) c.in-Some.ensures.after
          ∙ store_chunk (plain_of c.self.inside) c.args.list c.index_mut-row.result.now c.lengthen.new.self (λ (r : Row). lengthened r c.in-Some.chunk) (set_of.len (without c.self.inside.pool c.in-Some.chunk).free) is (ap row_of c.lengthen.ensures) (len-without c.self.inside.pool c.in-Some.chunk free)
          ∙ ap (λ p. with_chunk (store_of p) c.args.list (lengthened (row (store_of p) c.args.list) c.in-Some.chunk)) c.self.view_is,
    )

pub returns-clause-known : goal.returns-clause-known
returns-clause-known c =
    let low : c.args.list < length c.self.inside.rows.items = open_low (plain_of c.self.inside) c.args.self.now c.args.list c.self.view_is c.requires.takes in
    let is : c.index_mut-row.result.now ≡ list_in c.self.inside.rows.items c.args.list = list_is c.self.inside.rows.items c.args.list c.index_mut-row.result.now low c.index_mut-row.ensures.value in
    let Q : PlainList = c.index_mut-row.result.now in
    subst (λ p. Keeps (Knows p) (Knows (with_list (plain_of c.self.inside) c.args.list c.lengthen.new.self))) c.self.view_is
    (known_changed (plain_of c.self.inside) c.args.list Q c.lengthen.new.self low is
    (λ owned x d i at. subst (λ (q : PlainList). StandsAt owned q x d i) (sym c.lengthen.ensures) (stands_lengthened owned Q c.in-Some.chunk x d i at)))

pub returns-clause-same_filed : goal.returns-clause-same_filed
returns-clause-same_filed c =
    let low : c.args.list < length c.self.inside.rows.items = open_low (plain_of c.self.inside) c.args.self.now c.args.list c.self.view_is c.requires.takes in
    let is : c.index_mut-row.result.now ≡ list_in c.self.inside.rows.items c.args.list = list_is c.self.inside.rows.items c.args.list c.index_mut-row.result.now low c.index_mut-row.ensures.value in
    subst (λ p. SameFiled p (with_list (plain_of c.self.inside) c.args.list c.lengthen.new.self)) c.self.view_is
    (filed_changed (plain_of c.self.inside) c.args.list c.index_mut-row.result.now c.lengthen.new.self low is (ap (λ (q : PlainList). q.filed) c.lengthen.ensures))

pub returns-clause-stays : goal.returns-clause-stays
returns-clause-stays c =
    let low : c.args.list < length c.self.inside.rows.items = open_low (plain_of c.self.inside) c.args.self.now c.args.list c.self.view_is c.requires.takes in
    let is : c.index_mut-row.result.now ≡ list_in c.self.inside.rows.items c.args.list = list_is c.self.inside.rows.items c.args.list c.index_mut-row.result.now low c.index_mut-row.ensures.value in
    subst (λ (p : Plain). StayFiled p.lists (set c.self.inside.rows.items c.args.list c.lengthen.new.self)) c.self.view_is
    (stay_changed c.self.inside.rows.items c.args.list c.index_mut-row.result.now c.lengthen.new.self low is
    (λ owned x d i at. subst (λ (q : PlainList). StandsAt owned q x d i) (sym c.lengthen.ensures) (stands_lengthened owned c.index_mut-row.result.now c.in-Some.chunk x d i at))
    (λ e. ap (λ (q : PlainList). q.phase) c.lengthen.ensures ∙ e))

pub returns-clause-kept : goal.returns-clause-kept
returns-clause-kept c = slots_stay _ _ (returns-clause-stays c)

pub returns-clause-borne : goal.returns-clause-borne
returns-clause-borne c = λ f borne. borne_same _ _ (returns-clause-stays c) (ap (λ (p : Plain). p.out) c.self.view_is) f borne
