use Rattle.std.proofs.Common.{◌≡◌, Some, slice_get, length, arith, refl, sym, ◌∙◌}
use Rattle.std.proofs.lemmas.Option.{slice_get_read}
use Rattle.pinned_version.proofs.BookLaws.{last_before}
use Rattle.pinned_version.proofs.point_book.point_at.Goals as goal

pub returns : goal.returns
returns c =
    let at : slice_get c.args.batches.now c.args.place ≡ Some c.index-batches-place.result =
    slice_get_read c.args.batches.now (length c.args.batches.now) c.args.place c.index-batches-place.result refl c.requires.within c.index-batches-place.is in
    c.get.ensures
    ∙ sym (last_before c.args.batches.now c.args.place c.args.item c.index-batches-place.result c.requires.order at
    (c.requires.before c.args.place c.index-batches-place.result at (omega arith)) c.requires.behind)
