use Rattle.std.proofs.Common.{◌≡◌, ◌-◌, ◌^◌, ◌*◌, ◌/◌, ◌%◌, ◌==◌, ◌++◌, ◌∙◌, sym, ap, arith, min, take, drop, length, take_while}
use Rattle.std.specs.Char.{is_ascii_digit}
use Rattle.std.specs.List.{prefix_len, list_all}
use Rattle.std.proofs.lemmas.List.{length-take, take_rest}
use Rattle.std.proofs.lemmas.List.Folds.{length-prefix_len}
use Rattle.std.proofs.lemmas.List.Sums.{prefix_len-le-length}
use Rattle.xyz_points.specs.Numbers.{denominator, is_numeral, number, numerator, without_point}
use Rattle.xyz_points.proofs.DecimalLaws.{all_digits, bad_dropped, bad_kept, kept_value}
use Rattle.xyz_points.proofs.NumberLaws.{run_passes, ten_pow_pos}
use Rattle.xyz_points.proofs.ScaleLaws.{exact_of, floor_of, product_capped}
use Rattle.xyz_points.proofs.numbers.magnitude.Goals as goal

pub returns-then-digits-kept-clause-none : goal.returns-then-digits-kept-clause-none
returns-then-digits-kept-clause-none c =
    let long = length-take c.min-kept.result c.in_ok-fraction.fraction.now in
    ap is_numeral c.in_ok-fraction.ensures.digits
    ∙ bad_kept (take c.digits_after-value.result.1 c.args.text.now) c.in_ok-fraction.fraction.now c.min-kept.result
    (omega (arith, long, c.min-kept.ensures, c.digits_after-value-2.ensures.count, c.if-digits-kept.true))

pub returns-in_err-exact-clause-none : goal.returns-in_err-exact-clause-none
returns-in_err-exact-clause-none c = rw c.from_residual-in_err-exact.ensures
    (ap is_numeral c.in_ok-fraction.ensures.digits
    ∙ bad_dropped (take c.digits_after-value.result.1 c.args.text.now) c.in_ok-fraction.fraction.now c.min-kept.result
    (rw take_rest at c.in_err-exact.ensures.none))

pub returns-clause-some : goal.returns-clause-some
returns-clause-some c =
    let text = c.args.text.now in
    let fraction = c.in_ok-fraction.fraction.now in
    let kept = c.min-kept.result in
    let cut : without_point text ≡ take_while is_ascii_digit text ++ fraction = c.in_ok-fraction.ensures.digits ∙ ap (λ n. take n text ++ fraction) c.digits_after-value.ensures.count in
    let long = length-take kept fraction in
    let most = prefix_len-le-length is_ascii_digit (take kept fraction) in
    let front = length-prefix_len is_ascii_digit text in
    ap is_numeral cut
    ∙ all_digits (take_while is_ascii_digit text) fraction kept (omega (arith, front, c.digits_after-value.ensures.count, c.if-whole-fraction-eq0.false)) (run_passes is_ascii_digit text)
    (omega (arith, long, most, c.min-kept.ensures, c.digits_after-value-2.ensures.count, c.if-digits-kept.false)) (rw take_rest at c.in_ok-exact.ensures.some)

pub returns-clause-floor : goal.returns-clause-floor
returns-clause-floor c =
    let text = c.args.text.now in
    let part = c.in_ok-fraction.fraction.now in
    let kept = c.min-kept.result in
    let d = c.args.decimals in
    let cut : without_point text ≡ take_while is_ascii_digit text ++ part = c.in_ok-fraction.ensures.digits ∙ ap (λ n. take n text ++ part) c.digits_after-value.ensures.count in
    let long = length-take kept part in
    let most = prefix_len-le-length is_ascii_digit (take kept part) in
    let all : prefix_len is_ascii_digit (take kept part) ≡ length (take kept part) = omega (arith, long, most, c.min-kept.ensures, c.digits_after-value-2.ensures.count, c.if-digits-kept.false) in
    let value : c.digits_after-value-2.result.0 ≡ min (number (take_while is_ascii_digit text ++ take kept part)) (2 ^ 32) =
    kept_value (2 ^ 32) text (take kept part) c.digits_after-value.result.0 c.digits_after-value-2.result.0 c.digits_after-value.ensures.value all c.digits_after-value-2.ensures.value in
    let floor : number (take_while is_ascii_digit text ++ part) * 10 ^ d / 10 ^ length part ≡ number (take_while is_ascii_digit text ++ take kept part) * 10 ^ (d - kept) =
    floor_of (take_while is_ascii_digit text) part d kept c.min-kept.ensures (rw take_rest at c.in_ok-exact.ensures.some) in
    let same : numerator d text / denominator text ≡ number (take_while is_ascii_digit text ++ part) * 10 ^ d / 10 ^ length part =
    λ i. number (cut i) * 10 ^ d / 10 ^ length (c.in_ok-fraction.ensures.fraction i) in
    c.min-floor.ensures
    ∙ ap (λ p. min (c.digits_after-value-2.result.0 * p) (2 ^ 32)) c.pow.ensures
    ∙ ap (λ v. min (v * 10 ^ (d - kept)) (2 ^ 32)) value
    ∙ product_capped (2 ^ 32) (number (take_while is_ascii_digit text ++ take kept part)) (10 ^ (d - kept)) (ten_pow_pos (d - kept))
    ∙ ap (λ n. min n (2 ^ 32)) (sym (same ∙ floor))

pub returns-clause-exact : goal.returns-clause-exact
returns-clause-exact c =
    let text = c.args.text.now in
    let part = c.in_ok-fraction.fraction.now in
    let kept = c.min-kept.result in
    let d = c.args.decimals in
    let cut : without_point text ≡ take_while is_ascii_digit text ++ part = c.in_ok-fraction.ensures.digits ∙ ap (λ n. take n text ++ part) c.digits_after-value.ensures.count in
    let exact : (number (take_while is_ascii_digit text ++ part) * 10 ^ d % 10 ^ length part == 0) ≡ list_all (λ b. b == 48) (drop kept part) =
    exact_of (take_while is_ascii_digit text) part d kept c.min-kept.ensures (rw take_rest at c.in_ok-exact.ensures.some) in
    let same : (numerator d text % denominator text == 0) ≡ (number (take_while is_ascii_digit text ++ part) * 10 ^ d % 10 ^ length part == 0) =
    λ i. number (cut i) * 10 ^ d % 10 ^ length (c.in_ok-fraction.ensures.fraction i) == 0 in
    let zeros : c.in_ok-exact.exact ≡ list_all (λ b. b == 48) (drop kept part) = rw take_rest at c.in_ok-exact.ensures.zeros in
    zeros ∙ sym (same ∙ exact)
