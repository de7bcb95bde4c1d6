use Rattle.std.proofs.Common.{sym, ◌∙◌, arith}
use Rattle.sim_script.proofs.NumberLaws.{eight_digits, digit_more}
use Rattle.sim_script.proofs.numbers.numeral.Goals as goal

pub overflow_mul-value : goal.overflow_mul-value
overflow_mul-value c =
    let few =
    eight_digits c.loop-byte.byte-index c.loop-byte.value
    (omega (arith, c.loop-byte-test.true, c.if-text-most.false, c.requires)) c.loop-byte.invariant.below in omega arith

pub overflow_add-value : goal.overflow_add-value
overflow_add-value c =
    let few =
    eight_digits c.loop-byte.byte-index c.loop-byte.value
    (omega (arith, c.loop-byte-test.true, c.if-text-most.false, c.requires)) c.loop-byte.invariant.below in omega (arith, c.from.ensures)

pub loop-byte-preserved : goal.loop-byte-preserved
loop-byte-preserved c =
    digit_more c.args.text.now c.loop-byte.byte-index c.loop-byte.value c.from.result c.loop-byte.invariant c.loop-byte-test.true
    (sym c.is_ascii_digit.ensures.value ∙ c.if-not-is_ascii_digit.false) c.from.ensures
