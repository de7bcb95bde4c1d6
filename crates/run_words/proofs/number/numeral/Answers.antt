use Rattle.std.proofs.Common.{◌∙◌, refl}
use Rattle.run_words.proofs.Numerals.{no_numeral_behind, no_numeral, not_chosen}
use Rattle.run_words.proofs.number.numeral.Goals as goal

pub returns-in_err-digits-in-Some : goal.returns-in_err-digits-in-Some
returns-in_err-digits-in-Some c =
    let no = no_numeral_behind c.args.text.now c.in-Some.rest.now c.args.negatives c.in-Some.ensures c.in_err-digits-in-Some.ensures in
    c.from_residual.ensures ∙ rw no refl

pub returns-in_err-digits-in-None : goal.returns-in_err-digits-in-None
returns-in_err-digits-in-None c =
    let no = no_numeral c.args.text.now c.args.negatives (not_chosen _ _ c.in-None.ensures) c.in_err-digits-in-None.ensures in
    c.from_residual-in_err-digits-in-None.ensures ∙ rw no refl
