use Rattle.std.proofs.Common.{ℕ, ◌<◌, get_or}
use Rattle.list_words.specs.Plain.{Bears, list_in}
use Rattle.list_words.specs.declared.leaf_lists.Answer.{Answer}
use Rattle.list_words.proofs.plain_lists.PlainListsLeafLists.vouches.Given as goal

abbrev pub invariant-loop-answer : goal.invariant-loop-answer
invariant-loop-answer l = (k : ℕ) (d : Answer) → k < l.answer-index → Bears (list_in l.self.lists (get_or l.answer-items k d).list) (get_or l.answer-items k d).item (get_or l.answer-items k d).filed
