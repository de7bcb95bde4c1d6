use Rattle.std.proofs.Common.{◌∙◌, sym}
use Rattle.std.proofs.lemmas.Str.Parse.{parse_digits}
use Rattle.run_words.proofs.Digits.{own, parsed_digits}
use Rattle.run_words.proofs.number.digits.Goals as goal

pub returns : goal.returns
returns c =
    let digits = sym c.are_digits.ensures ∙ c.if-not-are_digits.false in
    c.ok.ensures.value ∙ parsed_digits c.args.text.now c.args.most c.parse.result (parse_digits own 64 c.args.text.now c.parse.result c.parse.ensures.value.0 digits) digits c.if-text-most.false
