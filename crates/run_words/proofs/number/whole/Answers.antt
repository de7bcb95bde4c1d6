use Rattle.std.proofs.Common.{◌≡◌, ◌∙◌, w32, to_z, of_z, rules}
use Rattle.std.specs.Prelude.{pos, int_lt}
use Rattle.run_words.specs.Numbers.{is_numeral, whole}
use Rattle.run_words.proofs.Numerals.{chosen, ranged}
use Rattle.run_words.proofs.number.whole.Goals as goal
use mir.Syntax.{w128}

pub returns : goal.returns
returns c =
    let low : to_z w32 (of_z w32 c.args.low) ≡ c.args.low = search rules in
    let high : to_z w32 (of_z w32 c.args.high) ≡ c.args.high = search rules in
    let number : to_z w128 (of_z w128 c.in_ok-numeral.field-0) ≡ c.in_ok-numeral.field-0 = search rules in
    let is = chosen (is_numeral (int_lt c.args.low (pos 0)) c.args.text.now) c.in_ok-numeral.field-0 (whole c.args.text.now) (rw low at c.in_ok-numeral.ensures) in
    rw (low, high, number) at c.in_range.ensures ∙ ranged _ _ _ c.args.low c.args.high is.0 is.1
