use Rattle.std.specs.BinaryHeap.{heap_items, heap_capacity}
use Rattle.chunk_pool.proofs.HeapLaws.{IsFilled}
use Rattle.chunk_pool.proofs.pool.Pool.new.Given as goal

abbrev pub invariant-loop-number : goal.invariant-loop-number
invariant-loop-number l = IsFilled l.number l.n (heap_items l.free) (heap_capacity l.free)
