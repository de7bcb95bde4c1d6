use Rattle.std.proofs.Common.{◌≡◌, ◌<◌, inl, inr, true, false, ◌∷◌, ap, refl, sym, subst, ◌∙◌}
use Rattle.std.specs.BinaryHeap.{heap_items, heap_len, heap_capacity}
use Rattle.std.specs.FinSet as set
use Rattle.std.proofs.lemmas.Bool.{cases_Bool}
use Rattle.chunk_pool.specs.Heaps.{set_of}
use Rattle.chunk_pool.specs.Numbers.{Numbers, IsFree, with_free}
use Rattle.chunk_pool.proofs.HeapLaws.{kept_pushed, room_for_one, set_of-permutation}
use Rattle.chunk_pool.proofs.pool.Pool.give.Goals as goal

pub unreachable-requires : goal.unreachable-requires
unreachable-requires c =
    let low : c.args.id < c.self.inside.size = subst (λ (p : Numbers). c.args.id < p.size) (sym c.self.view_is) c.requires.below in
    let lacks : set.contains (set_of (heap_items c.self.inside.free)) c.args.id ≡ false = elim (cases_Bool (set.contains (set_of (heap_items c.self.inside.free)) c.args.id)) [
      | inl has ↦ absurd (c.requires.taken (subst (λ (p : Numbers). IsFree p c.args.id) c.self.view_is has))
      | inr lacks ↦ lacks
    ] in
    let room : heap_len c.self.inside.free < heap_capacity c.self.inside.free = room_for_one c.self.inside c.args.id c.self.invariant low lacks in
    let none : false ≡ true = c.in_default.ensures.succeeds room in
    cc

pub invariant_of-self : goal.invariant_of-self
invariant_of-self c =
    let low : c.args.id < c.self.inside.size = subst (λ (p : Numbers). c.args.id < p.size) (sym c.self.view_is) c.requires.below in
    let lacks : set.contains (set_of (heap_items c.self.inside.free)) c.args.id ≡ false = elim (cases_Bool (set.contains (set_of (heap_items c.self.inside.free)) c.args.id)) [
      | inl has ↦ absurd (c.requires.taken (subst (λ (p : Numbers). IsFree p c.args.id) c.self.view_is has))
      | inr lacks ↦ lacks
    ] in
    kept_pushed c.self.inside _ c.args.id c.self.invariant refl low lacks c.in-Ok.ensures.permutation (c.in-Ok.ensures.heap_order c.self.invariant.ordered) c.in-Ok.ensures.capacity

pub returns : goal.returns
returns c =
    ap (λ s. let p : Numbers = record { size = c.self.inside.size; free = s } in p) (set_of-permutation (record { 0 = c.args.id } ∷ heap_items c.self.inside.free) (heap_items c.push.new.self) c.in-Ok.ensures.permutation)
    ∙ ap (λ p. with_free p c.args.id) c.self.view_is
