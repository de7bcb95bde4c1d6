use Rattle.std.proofs.Common.{◌≡◌, Some, slice_get, length, refl, sym, ◌∙◌}
use Rattle.std.proofs.lemmas.Option.{slice_get_read}
use Rattle.pinned_version.proofs.BookLaws.{found_there}
use Rattle.pinned_version.proofs.point_book.point_near.Goals as goal

pub returns-then-near-batches : goal.returns-then-near-batches
returns-then-near-batches c p e =
    let at : slice_get c.args.batches.now c.args.near ≡ Some c.index-batches-near.result =
    slice_get_read c.args.batches.now (length c.args.batches.now) c.args.near c.index-batches-near.result refl c.if-near-batches.true c.index-batches-near.is in
    found_there c.args.batches.now c.args.near c.args.item c.index-batches-near.result p c.requires at (sym c.get.ensures ∙ e)
