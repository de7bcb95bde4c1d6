use Rattle.std.proofs.Common.{◌≡◌, ◌+◌, ◌++◌, map}
use Rattle.octree_plain.proofs.Words.{cells_of_first}
use Rattle.octree_plain.proofs.cell_set.push_marked_cells.Given as goal

abbrev pub invariant-loop-k : goal.invariant-loop-k
invariant-loop-k l = l.cells.items ≡ l.fn.cells.items ++ map (λ z. l.first + z) (cells_of_first l.words l.k)
