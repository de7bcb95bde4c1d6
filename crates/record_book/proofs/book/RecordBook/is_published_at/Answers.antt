use Rattle.std.proofs.Common.{◌∙◌}
use Rattle.record_book.proofs.BagLaws.{item_told, same_published}
use Rattle.record_book.proofs.book.RecordBook.is_published_at.Goals as goal

pub returns : goal.returns
returns c item there =
    c.eq.ensures ∙ same_published c.index.result.now
    ∙ item_told c.self.inside _ c.self.invariant c.self.view_is c.args.place item c.index.result.now c.requires there c.index.ensures
