use Rattle.std.proofs.Common.{◌≡◌, ◌+◌, ℕ, min, arith, subst}
use Rattle.splat_ppm.specs.Lowering.{AreLowered, lies_in_square}
use Rattle.splat_ppm.proofs.Lowered.{row_lowered}
use Rattle.splat_ppm.proofs.pixels.lower_square.Goals as goal

pub loop-row-preserved : goal.loop-row-preserved
loop-row-preserved c =
    let row : ℕ = c.loop-row.row in
    let bottom : ℕ = c.args.square.bottom in
    let Lowered : ℕ → Type 0 = λ n. AreLowered (lies_in_square c.args.width c.args.square.left c.args.square.right c.args.square.top n) c.args.square.key c.args.keys.now c.lower.new.keys in
    let before : min row bottom ≡ row = omega (arith, c.loop-row-test.true) in
    let after : row + 1 ≡ min (row + 1) bottom = omega (arith, c.loop-row-test.true) in
    subst Lowered after (
    row_lowered c.args.width c.args.square.left c.args.square.right c.args.square.top row c.args.square.key c.args.keys.now c.loop-row.keys c.lower.new.keys c.requires.width c.requires.columns c.loop-row.auto.row
    (subst (λ n. AreLowered (lies_in_square c.args.width c.args.square.left c.args.square.right c.args.square.top n) c.args.square.key c.args.keys.now c.loop-row.keys) before c.loop-row.invariant)
    c.lower.ensures)
