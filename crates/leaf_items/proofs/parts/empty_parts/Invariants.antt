use Rattle.std.proofs.Common.{◌≡◌, [], map, replicate, vec_items}
use Rattle.leaf_items.proofs.parts.empty_parts.Given as goal

abbrev pub invariant-loop-part : goal.invariant-loop-part
invariant-loop-part l = map vec_items l.parts.items ≡ replicate l._part []
