use Rattle.std.proofs.Common.{◌∙◌, ◌+◌, sym, ap, Ok, cond, to_z-of_z, FitsSigned}
use Rattle.std.specs.Int.{w32}
use Rattle.xyz_points.proofs.FloorLaws.{BelowZero, in_range_below, negative_fits, one_away, out_of_range_below}
use Rattle.xyz_points.proofs.numbers.coordinate.Goals as goal

pub returns-then-away : goal.returns-then-away
returns-then-away c =
    let below : BelowZero c.args.decimals c.args.field.now c.sign-minus.result.1.now c.in-Some.rounded.floor (c.in-Some.rounded.floor + c.from.result) = record {
      behind = c.sign-minus.ensures.rest;
      minus = sym c.sign-minus.ensures.minus ∙ c.if-minus.true;
      decimal = c.in-Some.ensures.some;
      floored = c.in-Some.ensures.floor;
      rounded = ap (λ k. c.in-Some.rounded.floor + k) (c.from.ensures ∙ one_away c.in-Some.rounded.exact ∙ ap (λ b. cond b 0 1) c.in-Some.ensures.exact);
    } in
    let fits : FitsSigned w32 c.negative.result = rw c.negative.ensures (negative_fits (c.in-Some.rounded.floor + c.from.result) c.if-away.true) in
    ap Ok (to_z-of_z fits ∙ c.negative.ensures)
    ∙ sym (in_range_below c.args.decimals c.args.field.now c.sign-minus.result.1.now c.in-Some.rounded.floor (c.in-Some.rounded.floor + c.from.result) below c.if-away.true)

pub returns-else-away : goal.returns-else-away
returns-else-away c =
    let below : BelowZero c.args.decimals c.args.field.now c.sign-minus.result.1.now c.in-Some.rounded.floor (c.in-Some.rounded.floor + c.from.result) = record {
      behind = c.sign-minus.ensures.rest;
      minus = sym c.sign-minus.ensures.minus ∙ c.if-minus.true;
      decimal = c.in-Some.ensures.some;
      floored = c.in-Some.ensures.floor;
      rounded = ap (λ k. c.in-Some.rounded.floor + k) (c.from.ensures ∙ one_away c.in-Some.rounded.exact ∙ ap (λ b. cond b 0 1) c.in-Some.ensures.exact);
    } in
    sym (out_of_range_below c.args.decimals c.args.field.now c.sign-minus.result.1.now c.in-Some.rounded.floor (c.in-Some.rounded.floor + c.from.result) below c.if-away.false)
