use Rattle.std.proofs.Common.{◌≡◌, ◌+◌, ◌*◌, ◌++◌, map, min}
use Rattle.octree_model.specs.Numbers.{up_to}
use Rattle.batch_bounds.proofs.ends.push_ends.Given as goal

abbrev pub invariant-loop-k : goal.invariant-loop-k
invariant-loop-k l = l.ends.items ≡ l.fn.ends.items ++ map (λ k. l.start + min ((k + 1) * l.size) l.len) (up_to l.k)
