use Rattle.std.proofs.Common.{arith}
use Rattle.frame_words.proofs.Counted.{one_more_fits}
use Rattle.frame_words.proofs.portions.count_items.Goals as goal

pub overflow_add-count : goal.overflow_add-count
overflow_add-count c =
    let fits = one_more_fits c.args.parts.now c.loop-part.part-index c.part-item.result c.loop-part-test.true c.part-item.is in
    omega (arith, c.loop-part.invariant, c.len-count.ensures, c.requires)
