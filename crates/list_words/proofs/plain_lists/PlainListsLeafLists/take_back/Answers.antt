use Rattle.std.proofs.Common.{sym, subst}
use Rattle.list_words.specs.Store.{IsStanding, row}
use Rattle.list_words.specs.Plain.{Plain, Knows, store_of}
use Rattle.list_words.proofs.StoreLaws.{filed_shown, late_shown}
use Rattle.list_words.specs.Plain.{Plain, StayFiled}
use Rattle.std.proofs.Common.{ap, subst}
use Rattle.list_words.proofs.SlotLaws.{borne_stays, slots_stay, stay_same}
use Rattle.list_words.specs.Store.{IsFiledAt}
use Rattle.list_words.specs.Plain.{Shown, claims_in}
use Rattle.list_words.proofs.SlotLaws.{filed_at}
use Rattle.list_words.proofs.plain_lists.PlainListsLeafLists.take_back.Goals as goal

pub returns-then-count_off-clause-filed : goal.returns-then-count_off-clause-filed
returns-then-count_off-clause-filed c = λ a k i inside at.
    subst (λ (p : Plain). IsStanding (Knows p a.list) (row (store_of c.args.self.now) a.list) k a.item) (sym c.self.view_is) (filed_shown c.args.self.now c.args.filer a k i c.requires.borne_out inside at)

pub returns-then-count_off-clause-late : goal.returns-then-count_off-clause-late
returns-then-count_off-clause-late c = λ a s inside at. late_shown c.args.self.now c.args.filer a s c.requires.borne_out inside at

pub returns-then-count_off-clause-stays : goal.returns-then-count_off-clause-stays
returns-then-count_off-clause-stays c = subst (λ (p : Plain). StayFiled p.lists c.self.inside.rows.items) c.self.view_is (stay_same c.self.inside.rows.items)

pub returns-then-count_off-clause-kept : goal.returns-then-count_off-clause-kept
returns-then-count_off-clause-kept c = slots_stay _ _ (returns-then-count_off-clause-stays c)

pub returns-then-count_off-clause-borne : goal.returns-then-count_off-clause-borne
returns-then-count_off-clause-borne c = λ f out borne. borne_stays _ _ (returns-then-count_off-clause-stays c) f (λ some. out) borne

pub returns-clause-stays : goal.returns-clause-stays
returns-clause-stays c = subst (λ (p : Plain). StayFiled p.lists c.self.inside.rows.items) c.self.view_is (stay_same c.self.inside.rows.items)

pub returns-clause-kept : goal.returns-clause-kept
returns-clause-kept c = slots_stay _ _ (returns-clause-stays c)

pub returns-clause-borne : goal.returns-clause-borne
returns-clause-borne c = λ f out borne. borne_stays _ _ (returns-clause-stays c) f (λ some. out) borne

pub returns-then-count_off-clause-slots : goal.returns-then-count_off-clause-slots
returns-then-count_off-clause-slots c = λ a d k inside at.
    subst (λ (p : Plain). IsFiledAt (Shown p a.list) (claims_in p a.list) (row (store_of c.args.self.now) a.list) d k a.item) (sym c.self.view_is) (filed_at c.args.self.now c.args.filer a d k c.requires.borne_out inside at)
