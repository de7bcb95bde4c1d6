use Rattle.std.proofs.Common.{lit<}
use Rattle.std.proofs.lemmas.Str.Pattern.{strip_prefix_char}
use Rattle.run_words.proofs.Minus.{behind_minus, and_true}
use Rattle.run_words.proofs.number.without_minus.Goals as goal

pub returns-then-negatives : goal.returns-then-negatives
returns-then-negatives c =
    rw (c.if-negatives.true, and_true) (behind_minus c.args.text.now c.strip_prefix.result (strip_prefix_char 45 c.args.text.now c.strip_prefix.result c.strip_prefix.ensures.cases (lit< tt)))
