use Rattle.std.proofs.Common.{map, vec_items}
use Rattle.occupancy_grid.proofs.PageLaws.{no_cells, none_made, unmade_paged}
use Rattle.occupancy_grid.proofs.grid.Grid.new.Goals as goal

pub invariant_of-result : goal.invariant_of-result
invariant_of-result c = unmade_paged (map vec_items c.in_ok-unmade_pages.field-0.items) c.in_ok-unmade_pages.ensures

pub returns : goal.returns
returns c = λ i. record {
  cells = no_cells (map vec_items c.in_ok-unmade_pages.field-0.items) c.in_ok-unmade_pages.ensures i;
  pages = none_made (map vec_items c.in_ok-unmade_pages.field-0.items) c.in_ok-unmade_pages.ensures i;
}
