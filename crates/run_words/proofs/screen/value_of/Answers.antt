use Rattle.run_words.proofs.Screening.{found_value, no_value}
use Rattle.run_words.proofs.screen.value_of.Goals as goal

pub returns-in_err-find_option : goal.returns-in_err-find_option
returns-in_err-find_option c = rw c.from_residual.ensures (no_value c.args.words.now c.args.name.now c.in_err-find_option.ensures)

pub returns : goal.returns
returns c = found_value c.args.words.now c.args.name.now c.in_ok-find_option.field-0.now c.value.result c.in_ok-find_option.ensures (rw c.deref.ensures at c.value.ensures)
