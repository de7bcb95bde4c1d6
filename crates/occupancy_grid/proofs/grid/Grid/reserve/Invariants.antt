use Rattle.std.proofs.Common.{◌≡◌, ◌++◌, map, take, vec_items}
use Rattle.octree_model.specs.Numbers.{ascending}
use Rattle.occupancy_grid.specs.Pages.{page_of, marked_cells, made_pages, IsPaged}
use Rattle.occupancy_grid.proofs.grid.Grid.reserve.Given as goal

abbrev pub invariant-loop-cell : goal.invariant-loop-cell
invariant-loop-cell l = record {
  paged : IsPaged (map vec_items l.self-inside.pages.items) l.self-inside.count;
  cells : marked_cells (map vec_items l.self-inside.pages.items) ≡ l.fn.self.cells;
  pages : made_pages (map vec_items l.self-inside.pages.items) ≡ ascending (l.fn.self.pages ++ map page_of (take l.cell-index l.cells));
}
