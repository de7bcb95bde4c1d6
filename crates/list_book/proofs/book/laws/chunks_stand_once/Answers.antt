use Rattle.std.proofs.Common.{◌≡◌, Some, subst, sym}
use Rattle.list_words.proofs.ChunkLaws.{SamePlace}
use Rattle.list_book.specs.Books.{BookValue, chunk_in}
use Rattle.list_book.proofs.PlaceLaws.{chunk_place}
use Rattle.list_book.proofs.book.laws.chunks_stand_once.Goals as goal

pub returns : goal.returns
returns c = λ owned w l h r q k at there.
    let here : chunk_in c.book.inside.rows.items owned l r ≡ Some k = subst (λ (b : BookValue). chunk_in b.rows owned l r ≡ Some k) (sym c.book.view_is) at in
    let other : chunk_in c.book.inside.rows.items w h q ≡ Some k = subst (λ (b : BookValue). chunk_in b.rows w h q ≡ Some k) (sym c.book.view_is) there in
    let place : SamePlace owned w l h r q =
    chunk_place c.book.inside.rows.items c.book.inside.pool c.book.inside.held c.book.inside.order.items c.book.inside.cleared c.book.inside.out.items c.book.inside.seats c.book.invariant.sound owned w l h r q k here other in
    (place.owned, place.list, place.rank)
