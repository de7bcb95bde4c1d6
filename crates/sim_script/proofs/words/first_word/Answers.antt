use Rattle.std.proofs.Common.{sym, ◌∙◌, ◌+◌, drop}
use Rattle.std.proofs.lemmas.List.{take_rest}
use Rattle.sim_script.proofs.WordLaws.{no_word, last_word, first_word}
use Rattle.sim_script.proofs.words.first_word.Goals as goal

pub returns-in_err-blanks-clause-none : goal.returns-in_err-blanks-clause-none
returns-in_err-blanks-clause-none c =
    rw c.from_residual.ensures (λ at. no_word c.args.text.now at (sym c.word_in.ensures ∙ c.in_err-blanks.was))

pub returns-in-None-clause-some : goal.returns-in-None-clause-some
returns-in-None-clause-some c at =
    rw take_rest (last_word c.args.text.now at c.in_ok-blanks.blanks (sym c.word_in.ensures ∙ c.in_ok-blanks.was) (rw take_rest at (sym c.in-None.ensures)))

pub returns-in-Some-clause-some : goal.returns-in-Some-clause-some
returns-in-Some-clause-some c at =
    rw (take_rest c.args.text.now c.in_ok-blanks.blanks, take_rest (drop c.in_ok-blanks.blanks c.args.text.now) (c.in-Some.k + 1))
    (first_word c.args.text.now at c.in_ok-blanks.blanks c.in-Some.k (sym c.word_in.ensures ∙ c.in_ok-blanks.was) (rw take_rest at (sym c.in-Some.ensures)))
