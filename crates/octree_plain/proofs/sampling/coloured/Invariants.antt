use Rattle.std.proofs.Common.{◌≡◌, ◌%◌, ◌^◌, map, take}
use Rattle.octree_plain.specs.Sampling.{key_at}
use Rattle.octree_plain.proofs.sampling.coloured.Given as goal

abbrev pub invariant-loop-cell : goal.invariant-loop-cell
invariant-loop-cell l = l.found.items ≡ map (λ z. record { cell = z; rgb = key_at l.places l.keys z % 2 ^ 24 }) (take l.cell-index l.cells)
