use Rattle.std.proofs.Common.{◌≡◌, ◌<◌, length, map, vec_items, arith, ap, ◌∙◌}
use Rattle.std.proofs.lemmas.List.{length-map}
use Rattle.occupancy_grid.specs.Pages.{words_of}
use Rattle.occupancy_grid.specs.Grids.{GridValue}
use Rattle.occupancy_grid.proofs.PageLaws.{words_read, at_most_a_page, next_page, all_pages}
use Rattle.occupancy_grid.proofs.grid.Grid.cells.Goals as goal

pub push_marked_cells-requires : goal.push_marked_cells-requires
push_marked_cells-requires c =
    let pages = c.self.inside.pages.items in
    let same : c.deref-page-items.result.now ≡ pages = c.deref-page-items.ensures.value in
    let within : c.loop-p.p < length c.deref-page-items.result.now = omega arith in
    let words = words_read vec_items c.deref-page-items.result.now c.loop-p.p c.page-item.result c.page-item.is within in
    let few = at_most_a_page (map vec_items pages) c.self.inside.count c.loop-p.p c.self.invariant in
    omega (arith, ap length c.deref.ensures.value, ap length words, ap (λ ps. length (words_of (map vec_items ps) c.loop-p.p)) same, few, ap length same, length-map pages vec_items, c.self.invariant.many)

pub loop-p-preserved : goal.loop-p-preserved
loop-p-preserved c =
    let pages = c.deref-page-items.result.now in
    let within : c.loop-p.p < length pages = omega arith in
    let words = words_read vec_items pages c.loop-p.p c.page-item.result c.page-item.is within in
    next_page (map vec_items pages) c.self.inside.count c.loop-p.p c.deref.result.now c.loop-p.cells.items c.push_marked_cells.new.cells.items
    (rw c.deref-page-items.ensures.value c.self.invariant) (c.deref.ensures.value ∙ words) c.loop-p.invariant c.in_ok-push_marked_cells.ensures

pub returns : goal.returns
returns c =
    c.loop-p.invariant ∙ all_pages (map vec_items c.deref-page-items.result.now) c.loop-p.p (omega (arith, length-map c.deref-page-items.result.now vec_items))
    ∙ ap (λ ps. Rattle.occupancy_grid.specs.Pages.marked_cells (map vec_items ps)) c.deref-page-items.ensures.value ∙ ap (λ (g : GridValue). g.cells) c.self.view_is
