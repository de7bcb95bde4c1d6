use Rattle.std.proofs.Common.{◌≤◌, arith, length}
use Rattle.std.specs.Char.{is_ascii_digit}
use Rattle.std.specs.List.{prefix_len}
use Rattle.std.proofs.lemmas.List.Sums.{prefix_len-le-length}
use Rattle.xyz_points.proofs.DecimalLaws.{no_numeral, numeral}
use Rattle.xyz_points.proofs.NumberLaws.{all_pass, not_all_pass}
use Rattle.xyz_points.proofs.numbers.numeral.Goals as goal

pub returns-then-digits-text-clause-none : goal.returns-then-digits-text-clause-none
returns-then-digits-text-clause-none c =
    no_numeral c.args.text.now (not_all_pass is_ascii_digit c.args.text.now (omega (arith, c.digits_after-value.ensures.count, c.if-digits-text.true)))

pub returns-else-digits-eq0-clause-some : goal.returns-else-digits-eq0-clause-some
returns-else-digits-eq0-clause-some c =
    let most : prefix_len is_ascii_digit c.args.text.now ≤ length c.args.text.now = prefix_len-le-length is_ascii_digit c.args.text.now in
    let count = c.digits_after-value.ensures.count in
    numeral c.args.text.now (omega (arith, most, count, c.if-digits-eq0.false))
    (all_pass is_ascii_digit c.args.text.now (omega (arith, most, count, c.if-digits-text.false)))
