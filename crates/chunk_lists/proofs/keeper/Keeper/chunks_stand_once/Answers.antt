use Rattle.std.proofs.Common.{subst}
use Rattle.list_words.specs.Store.{StandOnce}
use Rattle.chunk_lists.specs.Keepers.{store_of}
use Rattle.chunk_lists.proofs.Knowing.{once_now}
use Rattle.chunk_lists.proofs.keeper.Keeper.chunks_stand_once.Goals as goal

pub returns : goal.returns
returns c =
    let i = c.self.inside in let g = i.seat.ledger in let b = i.book in let t = c.self.invariant.tied in let n = i.lists.value.lists in let m = i.lists.value.chunks in
    subst (λ k. StandOnce (store_of k)) c.self.view_is (once_now n m g b t c.chunks_stand_once.ensures)
