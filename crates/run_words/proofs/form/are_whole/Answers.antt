use Rattle.std.proofs.Common.{lit<, rules}
use borrow.Author.Tests.{tests}
use Rattle.std.proofs.lemmas.Iterator.Search.{all_from_yields_List}
use Rattle.std.proofs.lemmas.Iterator.Splits.{YieldsList-from_str_split}
use Rattle.run_words.specs.Numbers.{is_number}
use Rattle.run_words.proofs.form.are_whole.Goals as goal

pub returns : goal.returns
returns c = all_from_yields_List (λ number. is_number c.args.low c.args.high number) _ _ _ c.all.ensures.ran (YieldsList-from_str_split 44 c.args.text.now (lit< tt) c.split.ensures.text c.split.ensures.has_more c.split.ensures.pattern) (λ x b q k. search (rules, tests))
