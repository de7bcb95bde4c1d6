use Rattle.std.proofs.Common.{◌∙◌}
use Rattle.run_words.specs.Numbers.{natural, is_seed}
use Rattle.run_words.proofs.Numerals.{is_some-choice}
use Rattle.run_words.proofs.number.is_seed.Goals as goal

pub returns : goal.returns
returns c = c.is_some.ensures ∙ is_some-choice c.seed.result (is_seed c.args.text.now) (natural c.args.text.now) c.seed.ensures
