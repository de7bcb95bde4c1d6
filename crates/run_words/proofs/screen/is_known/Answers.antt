use Rattle.std.proofs.Common.{◌∙◌, sym}
use Rattle.run_words.proofs.Screening.{known}
use Rattle.run_words.proofs.screen.is_known.Goals as goal

pub returns-else-is_file : goal.returns-else-is_file
returns-else-is_file c = c.is_taken.ensures ∙ known c.options.result.now c.args.command c.args.word.now c.options.ensures (sym c.is_file.ensures ∙ c.if-is_file.false)
