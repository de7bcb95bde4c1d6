use Rattle.std.proofs.Common.{◌<◌, arith, ap, sym, subst, ◌∙◌}
use Rattle.std.specs.BinaryHeap.{heap_items}
use Rattle.std.specs.FinSet as set
use Rattle.std.proofs.lemmas.Cmp.{nat_cmp_total}
use Rattle.chunk_pool.specs.Heaps.{plain}
use Rattle.chunk_pool.specs.Numbers.{Numbers, IsLeastFree, without}
use Rattle.chunk_pool.proofs.HeapLaws.{Popped, popped, least_of}
use Rattle.chunk_pool.proofs.pool.Pool.take.Goals as goal

pub invariant_of-self-2 : goal.invariant_of-self-2
invariant_of-self-2 c =
    let after : Popped (heap_items c.self.inside.free) c.in_ok-number.field-0 (heap_items c.pop.new.self) = popped _ _ _ c.in_ok-number.ensures.permutation c.self.invariant.once in
    record {
      ordered = (c.in_ok-number.ensures.heap_order c.self.invariant.ordered).0;
      once = after.once;
      below = λ k has. c.self.invariant.below k (after.stay k has);
      room = omega (arith, c.in_ok-number.ensures.capacity, c.self.invariant.room);
      fits = c.self.invariant.fits;
    }

pub returns-clause-least : goal.returns-clause-least
returns-clause-least c =
    let after : Popped (heap_items c.self.inside.free) c.in_ok-number.field-0 (heap_items c.pop.new.self) = popped _ _ _ c.in_ok-number.ensures.permutation c.self.invariant.once in
    subst (λ p. IsLeastFree p c.in_ok-number.field-0.0) c.self.view_is (record {
      free = after.has;
      least = λ j has. least_of c.in_ok-number.field-0 (heap_items c.self.inside.free) j (c.in_ok-number.ensures.heap_order c.self.invariant.ordered).1
          (sym (set.contains-from_list nat_cmp_total (plain (heap_items c.self.inside.free)) j) ∙ has);
    })

pub returns-clause-after : goal.returns-clause-after
returns-clause-after c =
    let after : Popped (heap_items c.self.inside.free) c.in_ok-number.field-0 (heap_items c.pop.new.self) = popped _ _ _ c.in_ok-number.ensures.permutation c.self.invariant.once in
    ap (λ s. let p : Numbers = record { size = c.self.inside.size; free = s } in p) after.after ∙ ap (λ p. without p c.in_ok-number.field-0.0) c.self.view_is

pub returns-clause-below : goal.returns-clause-below
returns-clause-below c =
    let after : Popped (heap_items c.self.inside.free) c.in_ok-number.field-0 (heap_items c.pop.new.self) = popped _ _ _ c.in_ok-number.ensures.permutation c.self.invariant.once in
    subst (λ (p : Numbers). c.in_ok-number.field-0.0 < p.size) c.self.view_is (c.self.invariant.below c.in_ok-number.field-0.0 after.has)
