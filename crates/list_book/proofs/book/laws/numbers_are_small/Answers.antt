use Rattle.std.proofs.Common.{◌≡◌, ◌+◌, ◌<◌, Some, subst, sym}
use Rattle.std.specs.List.{sum_by}
use Rattle.list_book.specs.Books.{BookValue, chunk_in, row_count}
use Rattle.list_book.proofs.PlaceLaws.{chunk_below, total_is}
use Rattle.list_book.proofs.book.laws.numbers_are_small.Goals as goal

pub returns-clause-chunks : goal.returns-clause-chunks
returns-clause-chunks c = λ owned l r k at.
    let here : chunk_in c.book.inside.rows.items owned l r ≡ Some k = subst (λ (b : BookValue). chunk_in b.rows owned l r ≡ Some k) (sym c.book.view_is) at in
    subst (λ (b : BookValue). k < b.chunks) c.book.view_is
    (chunk_below c.book.inside.rows.items c.book.inside.pool c.book.inside.held c.book.inside.order.items c.book.inside.cleared c.book.inside.out.items c.book.inside.seats c.book.invariant.sound owned l r k here)

pub returns-clause-total : goal.returns-clause-total
returns-clause-total c =
    subst (λ (b : BookValue). sum_by row_count b.rows + b.free ≡ b.chunks) c.book.view_is
    (total_is c.book.inside.rows.items c.book.inside.pool c.book.inside.held c.book.inside.order.items c.book.inside.cleared c.book.inside.out.items c.book.inside.seats c.book.invariant.sound)
