use Rattle.std.specs.List.{Contains}
use Rattle.std.proofs.Common.{◌≡◌, ℕ, ◌<◌, List, length, take, true, false, ap, sym, subst, ◌∙◌}
use Rattle.list_words.specs.Store.{Store, Unreached}
use Rattle.list_words.specs.Plain.{store_of}
use Rattle.list_words.proofs.ClearLaws.{cleared_all}
use Rattle.list_words.proofs.ReclaimLaws.{IsClearingOf, clearing_next, clearing_start}
use Rattle.list_words.proofs.SlotLaws.{borne_by}
use Rattle.list_words.specs.Plain.{HasSlot, StandsAt}
use Rattle.list_words.specs.PlainRows.{PlainList}
use Rattle.std.proofs.Common.{◌<◌, get_or}
use Rattle.list_words.proofs.plain_lists.PlainListsLeafLists.reclaim.Goals as goal

pub loop-self-init : goal.loop-self-init
loop-self-init c = clearing_start _

pub loop-self-preserved : goal.loop-self-preserved
loop-self-preserved c =
    let may : (c.loop-self.self.cleared < length c.loop-self.self.order) × Unreached c.loop-self.self.out c.loop-self.self.cleared = c.may_clear.ensures.may.0 c.loop-self-test.true in
    subst (λ q. IsClearingOf c.args.self.now q) (sym c.clear_next.ensures.cleared) (clearing_next c.args.self.now c.loop-self.self c.loop-self.invariant may.0 may.1 c.clear_next.ensures.shut)

pub returns-clause-store : goal.returns-clause-store
returns-clause-store c = cleared_all (store_of c.args.self.now) (store_of c.loop-self.self) c.loop-self.invariant.stores c.may_clear.ensures.begun (λ may. absurd (differ (sym c.loop-self-test.false ∙ c.may_clear.ensures.may.1 may)))
  where
    differ : false ≡ true → ⊥
    differ e = cc

pub returns-clause-known : goal.returns-clause-known
returns-clause-known c = λ l d x uncleared known.
    c.loop-self.invariant.known l d x (λ inside. uncleared (subst (λ (xs : List ℕ). Contains (take c.loop-self.self.cleared xs) l) (sym (ap (λ (s : Store). s.order) c.loop-self.invariant.stores.rest)) inside)) known

pub returns-clause-stays : goal.returns-clause-stays
returns-clause-stays c = λ l uncleared.
    c.loop-self.invariant.stays l (λ inside. uncleared (subst (λ (xs : List ℕ). Contains (take c.loop-self.self.cleared xs) l) (sym (ap (λ (s : Store). s.order) c.loop-self.invariant.stores.rest)) inside))

pub returns-clause-kept : goal.returns-clause-kept
returns-clause-kept c = λ l d k y uncleared shown.
    subst (λ (q : PlainList). HasSlot q d k y) (sym (returns-clause-stays c l uncleared)) shown

pub returns-clause-borne : goal.returns-clause-borne
returns-clause-borne c = λ f uncleared borne.
    borne_by c.args.self.now c.loop-self.self f
    (λ a d k inside at was. subst (λ (q : PlainList). StandsAt false q a.item d k) (sym (returns-clause-stays c a.list (uncleared a d k inside at))) was)
    c.loop-self.invariant.shut
    (λ some. subst (λ (xs : List ℕ). 0 < get_or xs f.birth 0) (sym (ap (λ (s : Store). s.out) c.loop-self.invariant.stores.rest)) some) borne
