use Rattle.std.proofs.Common.{◌≡◌, ◌+◌, ◌<◌, length, ap, arith}
use Rattle.batch_filing.specs.Filings.{IsFilerOf}
use Rattle.batch_filing.proofs.Filed.{filed_there}
use Rattle.batch_filing.proofs.filing.Filing+PlainFiler.file_plain.Goals as goal

pub invariant_of-self : goal.invariant_of-self
invariant_of-self c = (c.self.invariant.0, filed) where
  each : length c.self.inside.lists.items ≡ length c.self.inside.batch.points
  each = c.self.invariant.0

  more : c.self.inside.tried < length c.self.inside.lists.items
  more =
      let left = c.requires.left in
      let seen = ap (λ v. v.tried) c.self.view_is in
      let batch = ap (λ v. length v.batch.points) c.self.view_is in
      let lists = each in
      omega arith

  filed : IsFilerOf c.self.inside.first c.self.inside.lists.items (c.self.inside.tried + 1) c.file-filed.new.filer
  filed = rw c.file-filed.ensures.filer (
      filed_there c.self.inside.first c.self.inside.tried c.self.inside.lists.items
      c.self.inside.filer c.file-filed.result c.index-list.result.now
      c.self.invariant.1 more c.index-list.ensures)
