use Rattle.std.proofs.Common.{◌≡◌, List, length, Some, ap, subst, sym, ◌∙◌}
use Rattle.std.proofs.lemmas.List.{length-map}
use Rattle.list_words.specs.Store.{IsFoundAt, Row, StandOnce}
use Rattle.list_words.specs.PlainRows.{PlainList}
use Rattle.list_words.specs.Plain.{Plain, HasSlot, list_in, store_of}
use Rattle.list_words.specs.PlainKept.{plain_of}
use Rattle.list_words.specs.declared.leaf_lists.Phase.TheVariants.{Shut}
use Rattle.list_words.proofs.PlainLaws.{row-map}
use Rattle.list_words.proofs.StoreLaws.{marked_all, stands_chunk}
use Rattle.list_words.proofs.SlotLaws.{chunks_once, slot_found, slots_one}
use Rattle.list_words.proofs.plain_lists.PlainListsLeafLists.slots_agree.Goals as goal

pub returns-clause-agree : goal.returns-clause-agree
returns-clause-agree c = λ l d k y z has also.
    let lists : c.args.self.now.lists ≡ c.self.inside.rows.items = ap (λ (p : Plain). p.lists) (sym c.self.view_is) in
    slots_one c.self.inside.rows.items c.self.inside.homes.items c.self.inside.pool c.self.invariant.homed l d k y z
    (subst (λ (ls : List PlainList). HasSlot (list_in ls l) d k y) lists has) (subst (λ (ls : List PlainList). HasSlot (list_in ls l) d k z) lists also)

pub returns-clause-known : goal.returns-clause-known
returns-clause-known c = λ l d x. (λ known. (known.1, (known.0, known.2)), λ shown. (shown.1.0, shown.0, shown.1.1))

pub returns-clause-known_chunks : goal.returns-clause-known_chunks
returns-clause-known_chunks c = λ l d k x shown. (stands_chunk c.args.self.now l d x (shown.0, k, shown.1), shown.1.within)

pub returns-clause-once : goal.returns-clause-once
returns-clause-once c = subst (λ (p : Plain). StandOnce (store_of p)) c.self.view_is (chunks_once (plain_of c.self.inside) c.self.inside.homes.items c.self.inside.pool c.self.invariant.homed)

pub returns-clause-claimed : goal.returns-clause-claimed
returns-clause-claimed c = λ l shut_now.
    let q : PlainList = list_in c.args.self.now.lists l in
    let phase : q.phase ≡ Shut = ap (λ (r : Row). r.phase) (sym (row-map c.args.self.now.lists l)) ∙ shut_now in
    ap (λ (r : Row). length r.marked) (row-map c.args.self.now.lists l) ∙ ap length (marked_all q phase) ∙ length-map q.filed Some

pub returns-clause-found : goal.returns-clause-found
returns-clause-found c = λ l d k x shut_now shown.
    let q : PlainList = list_in c.args.self.now.lists l in
    let phase : q.phase ≡ Shut = ap (λ (r : Row). r.phase) (sym (row-map c.args.self.now.lists l)) ∙ shut_now in
    subst (λ (r : Row). IsFoundAt r d k x) (sym (row-map c.args.self.now.lists l)) (slot_found q shown.0 x d k phase shown.1)
