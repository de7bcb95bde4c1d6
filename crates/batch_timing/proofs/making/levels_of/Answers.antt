use Rattle.std.proofs.Common.{◌≡◌, ◌∙◌, sym, subst}
use Rattle.std.proofs.lemmas.List.Elements.{All-get_or}
use Rattle.cube_math.specs.Batches.{BatchValue}
use Rattle.batch_timing.proofs.making.levels_of.Goals as goal

pub with_batch-requires : goal.with_batch-requires
with_batch-requires c =
    let P : BatchValue → Type 0 = λ batch. batch.cube ≡ c.args.cube in
    subst P (sym c.batch-item.is) (All-get_or P c.args.batches.now c.loop-batch.batch-index c.batch-item.result c.loop-batch-test.true c.requires.cubes) ∙ sym c.loop-batch.invariant
