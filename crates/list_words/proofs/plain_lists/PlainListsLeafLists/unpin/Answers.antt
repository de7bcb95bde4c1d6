use Rattle.list_words.specs.Plain.{Plain, StayFiled}
use Rattle.std.proofs.Common.{ap, subst}
use Rattle.list_words.proofs.SlotLaws.{borne_stays, slots_stay, stay_same}
use Rattle.list_words.proofs.plain_lists.PlainListsLeafLists.unpin.Goals as goal

pub returns-then-count_off-clause-stays : goal.returns-then-count_off-clause-stays
returns-then-count_off-clause-stays c = subst (λ (p : Plain). StayFiled p.lists c.self.inside.rows.items) c.self.view_is (stay_same c.self.inside.rows.items)

pub returns-then-count_off-clause-kept : goal.returns-then-count_off-clause-kept
returns-then-count_off-clause-kept c = slots_stay _ _ (returns-then-count_off-clause-stays c)

pub returns-then-count_off-clause-borne : goal.returns-then-count_off-clause-borne
returns-then-count_off-clause-borne c = λ f out borne. borne_stays _ _ (returns-then-count_off-clause-stays c) f (λ some. out) borne

pub returns-clause-stays : goal.returns-clause-stays
returns-clause-stays c = subst (λ (p : Plain). StayFiled p.lists c.self.inside.rows.items) c.self.view_is (stay_same c.self.inside.rows.items)

pub returns-clause-kept : goal.returns-clause-kept
returns-clause-kept c = slots_stay _ _ (returns-clause-stays c)

pub returns-clause-borne : goal.returns-clause-borne
returns-clause-borne c = λ f out borne. borne_stays _ _ (returns-clause-stays c) f (λ some. out) borne
