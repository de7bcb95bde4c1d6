use Rattle.std.proofs.Common.{◌≡◌, ◌∙◌, ◌+◌, ◌-◌, min, List, subst, arith}
use Rattle.picture_model.specs.Items.{ItemValue}
use Rattle.frame_words.specs.Hands.{Adds}
use Rattle.frame_words.specs.Parts.{part_items, portion}
use Rattle.frame_words.proofs.Adding.{adds_then}
use Rattle.frame_words.proofs.Counted.{one_more_fits, one_more_long, portion_more}
use Rattle.frame_words.proofs.portions.draw_alone.Goals as goal

pub overflow_add-start : goal.overflow_add-start
overflow_add-start c =
    let fits = one_more_fits c.args.parts.now c.loop-part.part-index c.part-item.result c.loop-part-test.true c.part-item.is in
    omega (arith, c.loop-part.invariant.start, c.len-len.ensures, c.requires.parts.few)

pub loop-part-preserved : goal.loop-part-preserved
loop-part-preserved c =
    let parts = c.args.parts.now in let i = c.loop-part.part-index in let p = c.part-item.result in
    let more = portion_more c.args.first c.args.end c.loop-part.start c.len-len.result parts i p c.loop-part-test.true c.part-item.is
    c.loop-part.invariant.start c.len-len.ensures in
    let a : c.min-from.result ≡ min (c.args.first - c.loop-part.start) c.len-len.result = omega (arith, c.min-from.ensures, c.saturating_sub.ensures) in
    let b : c.min-to.result ≡ min (c.args.end - c.loop-part.start) c.len-len.result = omega (arith, c.min-to.ensures, c.saturating_sub-in-loop-part.ensures) in
    let before = c.loop-part.invariant.drawn in
    record {
      start = (λ j. c.loop-part.invariant.start j + c.len-len.ensures j) ∙ one_more_long parts i p c.loop-part-test.true c.part-item.is;
      drawn = record {
        table_is = c.draw.ensures.table ∙ before.table_is;
        brush = record {
          long = c.draw.ensures.brush.long;
          shares_are = c.draw.ensures.brush.shares_are
              ∙ before.brush.shares_are;
          bare = c.draw.ensures.brush.bare;
        };
        capped = c.draw.ensures.capped;
        drawn = subst (λ (xs : List ItemValue). Adds c.args.camera.now xs c.args.seat.now.me.0.keys c.draw.new.seat.me.0.keys) more
            (adds_then c.args.camera.now _ _ c.args.seat.now.me.0.keys c.loop-part.seat.me.0.keys c.draw.new.seat.me.0.keys before.drawn
            (subst (λ (xs : List ItemValue). Adds c.args.camera.now xs c.loop-part.seat.me.0.keys c.draw.new.seat.me.0.keys) (λ j. portion (a j) (b
            j) (part_items p)) c.draw.ensures.drawn));
      };
    }
