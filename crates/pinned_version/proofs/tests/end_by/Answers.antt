use Rattle.std.proofs.Common.{◌≤◌, All, refl, subst}
use Rattle.std.proofs.lemmas.List.{take_all}
use Rattle.std.proofs.lemmas.List.Elements.{All-more}
use Rattle.pinned_version.specs.Books.{BatchItems, end_of}
use Rattle.pinned_version.proofs.tests.end_by.Goals as goal

pub loop-batch-preserved : goal.loop-batch-preserved
loop-batch-preserved c =
    All-more (λ (b : BatchItems). end_of b ≤ c.args.number) c.args.batches.now c.loop-batch.batch-index c.batch-item.result c.loop-batch-test.true
    c.loop-batch.invariant (subst (λ (b : BatchItems). end_of b ≤ c.args.number) c.batch-item.is (c.if-not-ends_by.ensures refl))

pub returns : goal.returns
returns c whole =
    subst (All (λ (b : BatchItems). end_of b ≤ c.args.number)) (take_all c.loop-batch.batch-index c.args.batches.now c.loop-batch-test.false)
    c.loop-batch.invariant
