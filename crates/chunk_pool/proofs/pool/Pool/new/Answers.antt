use Rattle.std.proofs.Common.{◌≡◌, length, arith, ap, ◌∙◌}
use Rattle.chunk_pool.specs.Heaps.{set_of}
use Rattle.chunk_pool.specs.Numbers.{Numbers, all_below}
use Rattle.chunk_pool.proofs.HeapLaws.{kept_filled, one_more}
use Rattle.chunk_pool.proofs.pool.Pool.new.Goals as goal

pub invariant_of-result : goal.invariant_of-result
invariant_of-result c = kept_filled _ c.loop-number.number c.loop-number.invariant (omega arith) c.ranges.n.fits

pub loop-number-init : goal.loop-number-init
loop-number-init c = record {
  ordered = c.in_ok-free.ensures.heap_order;
  set_is = ap set_of c.in_ok-free.ensures.items;
  length_is = ap length c.in_ok-free.ensures.items;
  room = c.in_ok-free.ensures.capacity;
}

pub loop-number-preserved : goal.loop-number-preserved
loop-number-preserved c =
    one_more c.loop-number.number c.args.n _ _ _ _ c.loop-number.invariant (c.in_ok-push.ensures.heap_order c.loop-number.invariant.ordered) c.in_ok-push.ensures.permutation c.in_ok-push.ensures.capacity

pub returns : goal.returns
returns c =
    let all : c.loop-number.number ≡ c.args.n = omega arith in
    ap (λ s. let p : Numbers = record { size = c.args.n; free = s } in p) (c.loop-number.invariant.set_is ∙ ap all_below all)
