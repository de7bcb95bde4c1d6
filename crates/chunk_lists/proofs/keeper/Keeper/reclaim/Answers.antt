use Rattle.std.proofs.Common.{◌≡◌, subst}
use Rattle.list_book.specs.Books.{MayClearNext, next_in_order}
use Rattle.chunk_lists.proofs.Reclaims.{clearing_next}
use Rattle.chunk_lists.proofs.keeper.Keeper.reclaim.Goals as goal

pub loop-list-preserved : goal.loop-list-preserved
loop-list-preserved c =
    let e = c.self-in-loop-list.view_is in
    clearing_next c.args.self.now c.loop-list.self c.clear.new.self c.in-Some.list c.loop-list.invariant
    (subst (λ k. MayClearNext k.book) e c.in-Some.ensures.0)
    (subst (λ k. c.in-Some.list ≡ next_in_order k.book) e c.in-Some.ensures.1)
    c.clear.ensures.store c.clear.ensures.shut c.clear.ensures.below c.clear.ensures.known
