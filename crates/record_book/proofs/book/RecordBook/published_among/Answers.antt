use Rattle.std.proofs.Common.{◌≡◌, ℕ, Bool, Option, false, true, List, ◌∷◌, [], ◌++◌, get_or, take, ap, sym, ◌∙◌}
use Rattle.std.specs.Prelude.{slice_get}
use Rattle.cube_math.specs.Points.{PointValue}
use Rattle.record_model.specs.Admissions.{admitted_points}
use Rattle.record_book.specs.PublishedItems.{is_published_item, published_among}
use Rattle.record_book.proofs.ItemLaws.{passing_more_no, passing_more_yes}
use Rattle.record_book.proofs.book.RecordBook.published_among.Goals as goal
use Rattle.record_book.proofs.book.RecordBook.published_among.Goals.{else-is_published_at, then-is_published_at+in_ok-push}

pub loop-item-preserved : goal.loop-item-preserved
loop-item-preserved c =
    let book = c.args.self.now in
    let points_at : ℕ → Option PointValue = slice_get (admitted_points book.events) in
    let i = c.loop-item.item-index in
    let items : List ℕ = c.args.items.now in
    let item : ℕ = get_or items i 0 in
    let told : c.is_published_at.result ≡ is_published_item book item = c.is_published_at.ensures item c.place_near-place.ensures.item in
    elim c.if-is_published_at.branch [
      | then-is_published_at+in_ok-push w ↦
          ap (λ v. v.items) w.points-is ∙ w.in_ok-push.ensures.items
          ∙ ap (λ (l : List PointValue). l ++ w.point_at.result ∷ []) c.loop-item.invariant
          ∙ sym (passing_more_yes points_at (is_published_item book) items i 0 w.point_at.result c.loop-item-test.true
          (sym told ∙ w.if-is_published_at.true) w.point_at.ensures)
      | else-is_published_at w ↦
          ap (λ v. v.items) w.points-is ∙ c.loop-item.invariant
          ∙ sym (passing_more_no points_at (is_published_item book) items i 0 c.loop-item-test.true (sym told ∙ w.if-is_published_at.false))
    ]
