use Rattle.std.proofs.Common.{◌≡◌, ◌+◌, ◌-◌, ◌<◌, ◌≤◌, Option, Some, length, subst, ◌∙◌, arith}
use Rattle.std.specs.Prelude.{IfSome, slice_get}
use Rattle.record_book.specs.KeptBatches.{KeptValue, kept_of}
use Rattle.record_book.proofs.SearchLaws.{point_there}
use Rattle.record_book.proofs.ViewLaws.{view_batch}
use Rattle.record_book.proofs.book.RecordBook.point_at.Goals as goal

pub returns : goal.returns
returns c =
    let there : slice_get (kept_of c.args.self.now.events) c.args.place ≡ Some c.index-batch.result.now =
    view_batch c.self.inside _ c.self.invariant c.self.view_is c.args.place c.index-batch.result.now c.requires.place c.index-batch.ensures in
    let within = subst (λ (o : Option KeptValue). IfSome o
    (λ (b : KeptValue). (b.first ≤ c.args.item) × (c.args.item < b.first + length b.points))) there c.requires.item in
    point_there c.args.self.now.events c.args.place c.args.item
    (c.args.item - c.first.result) c.index-batch.result.now c.deref.result.now.items c.index.result.now
    there c.requires.item ((λ i. (c.deref.ensures i).items) ∙ c.points.ensures) (omega (arith, c.first.ensures, within.0)) c.index.ensures
