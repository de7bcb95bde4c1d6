use Rattle.std.proofs.Common.{◌≡◌, ◌+◌, ◌*◌, ◌≤◌, ◌<◌, ℕ, min, arith, subst, ◌∙◌}
use Rattle.std.proofs.Math.Nat.{mul-le-mul_right}
use Rattle.splat_ppm.specs.Lowering.{AreLowered, lies_in_square}
use Rattle.splat_ppm.proofs.Lowered.{row_lowered}
use Rattle.frame_words.proofs.brush.lower_square.Goals as goal

-- a row ends before the pixels do
row_within : (row width bottom pixels : ℕ) → row < bottom → bottom * width ≤ pixels → row * width + width ≤ pixels
row_within row width bottom pixels l w =
    let more : (row + 1) * width ≤ bottom * width = mul-le-mul_right width (omega arith) in omega arith

pub overflow_mul-start : goal.overflow_mul-start
overflow_mul-start c = let w = row_within c.loop-row.row c.args.width c.args.square.bottom c.args.desk.now.shared.key c.loop-row-test.true
    c.requires.rows in omega (arith, c.requires.small)

pub overflow_add-start : goal.overflow_add-start
overflow_add-start c = let w = row_within c.loop-row.row c.args.width c.args.square.bottom c.args.desk.now.shared.key c.loop-row-test.true
    c.requires.rows in omega (arith, c.requires.small, c.requires.ordered, c.requires.columns)

pub overflow_add-start-in-loop-row : goal.overflow_add-start-in-loop-row
overflow_add-start-in-loop-row c = let w = row_within c.loop-row.row c.args.width c.args.square.bottom c.args.desk.now.shared.key
    c.loop-row-test.true c.requires.rows in omega (arith, c.requires.small, c.requires.columns)

pub loop-row-preserved : goal.loop-row-preserved
loop-row-preserved c =
    let row : ℕ = c.loop-row.row in
    let bottom : ℕ = c.args.square.bottom in
    let Lowered : ℕ → Type 0 = λ n. AreLowered (lies_in_square c.args.width c.args.square.left c.args.square.right c.args.square.top n)
    c.args.square.key c.args.seat.now.me.0.keys c.lower_run.new.seat.me.0.keys in
    let before : min row bottom ≡ row = omega (arith, c.loop-row-test.true) in
    let after : row + 1 ≡ min (row + 1) bottom = omega (arith, c.loop-row-test.true) in record {
      table = c.lower_run.ensures.table ∙ c.loop-row.invariant.table;
      brush = record {
        long = c.lower_run.ensures.brush.long;
        shares_are = c.lower_run.ensures.brush.shares_are
            ∙ c.loop-row.invariant.brush.shares_are;
        bare = c.lower_run.ensures.brush.bare;
      };
      lowered = subst Lowered after (
          row_lowered c.args.width c.args.square.left c.args.square.right c.args.square.top row c.args.square.key c.args.seat.now.me.0.keys
          c.loop-row.seat.me.0.keys c.lower_run.new.seat.me.0.keys c.requires.width c.requires.columns c.loop-row.auto.row
          (subst (λ n. AreLowered (lies_in_square c.args.width c.args.square.left c.args.square.right c.args.square.top n) c.args.square.key
          c.args.seat.now.me.0.keys c.loop-row.seat.me.0.keys) before c.loop-row.invariant.lowered)
          c.lower_run.ensures.lowered);
    }
