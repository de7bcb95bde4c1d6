use Rattle.std.proofs.Common.{◌≡◌, ◌+◌, ◌++◌, length, map}
use Rattle.octree_plain.specs.CellSets.{set_bits}
use Rattle.octree_plain.proofs.cell_set.push_set_bits.Given as goal

abbrev pub invariant-loop-rest : goal.invariant-loop-rest
invariant-loop-rest l = l.places.items ++ map (λ b. l.first + b) (set_bits l.rest) ≡ l.fn.places.items ++ map (λ b. l.first + b) (set_bits l.word)

abbrev pub decreases-loop-rest : goal.decreases-loop-rest
decreases-loop-rest l = length (set_bits l.rest)
