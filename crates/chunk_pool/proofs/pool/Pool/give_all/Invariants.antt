use Rattle.chunk_pool.proofs.GiveLaws.{GivenBack}
use Rattle.chunk_pool.proofs.pool.Pool.give_all.Given as goal

abbrev pub invariant-loop-id : goal.invariant-loop-id
invariant-loop-id l = GivenBack l.initial.self l.self l.ids l.id-index
