use Rattle.list_words.specs.Plain.{Plain, StayFiled}
use Rattle.std.proofs.Common.{ap, subst}
use Rattle.list_words.proofs.SlotLaws.{borne_same, slots_stay, stay_same}
use Rattle.list_words.proofs.plain_lists.PlainListsLeafLists.reserve_filer.Goals as goal

pub returns-clause-stays : goal.returns-clause-stays
returns-clause-stays c = subst (λ (p : Plain). StayFiled p.lists c.self.inside.rows.items) c.self.view_is (stay_same c.self.inside.rows.items)

pub returns-clause-kept : goal.returns-clause-kept
returns-clause-kept c = slots_stay _ _ (returns-clause-stays c)

pub returns-clause-borne : goal.returns-clause-borne
returns-clause-borne c = λ f borne. borne_same _ _ (returns-clause-stays c) (ap (λ (p : Plain). p.out) c.self.view_is) f borne
