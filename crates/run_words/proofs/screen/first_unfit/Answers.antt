use Rattle.std.proofs.Common.{◌∙◌, map}
use Rattle.std.specs.Prelude.{string_bytes, Some, None}
use Rattle.run_words.proofs.Screening.{unfit}
use Rattle.run_words.proofs.Taken.{table_names}
use Rattle.run_words.proofs.screen.first_unfit.Goals as goal

pub returns-in_err-find_unfit : goal.returns-in_err-find_unfit
returns-in_err-find_unfit c = c.from_residual.ensures ∙ unfit c.options.result.now (map string_bytes c.args.given.now.words.now) None c.options.ensures c.in_err-find_unfit.ensures

pub returns : goal.returns
returns c = unfit c.options.result.now (map string_bytes c.args.given.now.words.now) (Some c.in_ok-find_unfit.field-0.now) c.options.ensures c.in_ok-find_unfit.ensures

pub find_unfit-requires : goal.find_unfit-requires
find_unfit-requires c = table_names c.options.result.now c.options.ensures
