use Rattle.std.proofs.Common.{sym, ◌∙◌, ap, arith, ◌≡◌, ◌^◌, min, take}
use Rattle.std.specs.Char.{is_ascii_digit}
use Rattle.std.specs.List.{prefix_len}
use Rattle.xyz_points.specs.Numbers.{number_after}
use Rattle.xyz_points.proofs.NumberLaws.{run_at, all_run}
use Rattle.xyz_points.proofs.numbers.digits_after.Goals as goal

pub returns-then-not-is_ascii_digit-clause-count :
    goal.returns-then-not-is_ascii_digit-clause-count
returns-then-not-is_ascii_digit-clause-count c =
    sym (run_at is_ascii_digit c.args.text.now c.loop-k.k c.loop-k-test.true c.loop-k.invariant.run (sym c.is_ascii_digit.ensures.value ∙ c.if-not-is_ascii_digit.true))

pub returns-then-not-is_ascii_digit-clause-value :
    goal.returns-then-not-is_ascii_digit-clause-value
returns-then-not-is_ascii_digit-clause-value c =
    let run : prefix_len is_ascii_digit c.args.text.now ≡ c.loop-k.k = run_at is_ascii_digit c.args.text.now c.loop-k.k c.loop-k-test.true c.loop-k.invariant.run (sym c.is_ascii_digit.ensures.value ∙ c.if-not-is_ascii_digit.true) in
    c.loop-k.invariant.value ∙ ap (λ n. min (number_after c.args.before (take n c.args.text.now)) (2 ^ 32)) (sym run)

pub returns-clause-count : goal.returns-clause-count
returns-clause-count c = sym (all_run is_ascii_digit c.args.text.now c.loop-k.k (omega arith) c.loop-k.invariant.run)

pub returns-clause-value : goal.returns-clause-value
returns-clause-value c =
    let run : prefix_len is_ascii_digit c.args.text.now ≡ c.loop-k.k = all_run is_ascii_digit c.args.text.now c.loop-k.k (omega arith) c.loop-k.invariant.run ∙ omega arith in
    c.loop-k.invariant.value ∙ ap (λ n. min (number_after c.args.before (take n c.args.text.now)) (2 ^ 32)) (sym run)
