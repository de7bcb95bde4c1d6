use Rattle.std.proofs.Common.{◌≡◌, map, vec_items}
use Rattle.occupancy_grid.proofs.PageLaws.{cells_of_pages}
use Rattle.occupancy_grid.proofs.grid.Grid.cells.Given as goal

abbrev pub invariant-loop-p : goal.invariant-loop-p
invariant-loop-p l = l.cells.items ≡ cells_of_pages (map vec_items l.page-items) l.p
