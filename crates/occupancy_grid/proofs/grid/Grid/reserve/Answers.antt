use Rattle.std.proofs.Common.{◌≡◌, ◌/◌, ◌<◌, ◌^◌, length, get_or, set, map, vec_items, arith, ap, ◌∙◌, sym}
use Rattle.std.proofs.lemmas.List.{length-map, append-nil}
use Rattle.std.proofs.lemmas.Result.{err_from_is_err_and}
use Rattle.octree_model.specs.Numbers.{ascending, with_number}
use Rattle.occupancy_grid.specs.Pages.{marked_cells, made_pages}
use Rattle.occupancy_grid.specs.Grids.{GridValue}
use Rattle.occupancy_grid.proofs.PageLaws.{made_canonical, same_page, page_made, pages_more, some_pages, MadeMore}
use Rattle.occupancy_grid.proofs.grid.Grid.reserve.Goals as goal

pub loop-cell-init : goal.loop-cell-init
loop-cell-init c =
    let pages : made_pages (map vec_items c.self.inside.pages.items) ≡ c.args.self.now.pages = ap (λ (g : GridValue). g.pages) c.self.view_is in
    record {
      paged = c.self.invariant;
      cells = ap (λ (g : GridValue). g.cells) c.self.view_is;
      pages = sym (made_canonical (map vec_items c.self.inside.pages.items)) ∙ ap ascending (pages ∙ sym (append-nil c.args.self.now.pages));
    }

pub invariant_of-self-in_err-make_page : goal.invariant_of-self-in_err-make_page
invariant_of-self-in_err-make_page c =
    let pages = c.loop-cell.self-inside.pages.items in
    let small : get_or c.args.cells.now c.loop-cell.cell-index 0 < 2 ^ 21 = c.requires c.loop-cell.cell-index 0 (omega arith) in
    let here : get_or c.args.cells.now c.loop-cell.cell-index 0 / 32768 < length pages = omega (arith, length-map pages vec_items, c.loop-cell.invariant.paged.many) in
    rw (same_page vec_items pages _ c.index_mut.result.now c.make_page.new.words c.index_mut.ensures.value here c.in_err-make_page.ensures.refused) c.loop-cell.invariant.paged

pub returns-in_err-make_page-clause-cells : goal.returns-in_err-make_page-clause-cells
returns-in_err-make_page-clause-cells c =
    let pages = c.loop-cell.self-inside.pages.items in
    let small : get_or c.args.cells.now c.loop-cell.cell-index 0 < 2 ^ 21 = c.requires c.loop-cell.cell-index 0 (omega arith) in
    let here : get_or c.args.cells.now c.loop-cell.cell-index 0 / 32768 < length pages = omega (arith, length-map pages vec_items, c.loop-cell.invariant.paged.many) in
    ap marked_cells (same_page vec_items pages _ c.index_mut.result.now c.make_page.new.words c.index_mut.ensures.value here c.in_err-make_page.ensures.refused) ∙ c.loop-cell.invariant.cells

pub returns-in_err-make_page-clause-refused : goal.returns-in_err-make_page-clause-refused
returns-in_err-make_page-clause-refused c =
    let pages = c.loop-cell.self-inside.pages.items in
    let small : get_or c.args.cells.now c.loop-cell.cell-index 0 < 2 ^ 21 = c.requires c.loop-cell.cell-index 0 (omega arith) in
    let here : get_or c.args.cells.now c.loop-cell.cell-index 0 / 32768 < length pages = omega (arith, length-map pages vec_items, c.loop-cell.invariant.paged.many) in
    let same : map vec_items (set pages (get_or c.args.cells.now c.loop-cell.cell-index 0 / 32768) c.make_page.new.words) ≡ map vec_items pages =
    same_page vec_items pages _ c.index_mut.result.now c.make_page.new.words c.index_mut.ensures.value here c.in_err-make_page.ensures.refused in
    let some = some_pages c.args.self.now _ c.args.cells.now c.loop-cell.cell-index (ap marked_cells same ∙ c.loop-cell.invariant.cells) (ap made_pages same ∙ c.loop-cell.invariant.pages) in
    let p = err_from_is_err_and c.from_residual.result c.from_residual.ensures.1 in
    rw p.1 some

pub loop-cell-preserved : goal.loop-cell-preserved
loop-cell-preserved c =
    let pages = c.loop-cell.self-inside.pages.items in
    let small : get_or c.args.cells.now c.loop-cell.cell-index 0 < 2 ^ 21 = c.requires c.loop-cell.cell-index 0 (omega arith) in
    let here : get_or c.args.cells.now c.loop-cell.cell-index 0 / 32768 < length pages = omega (arith, length-map pages vec_items, c.loop-cell.invariant.paged.many) in
    let more : MadeMore (map vec_items pages) (map vec_items (set pages (get_or c.args.cells.now c.loop-cell.cell-index 0 / 32768) c.make_page.new.words)) c.loop-cell.self-inside.count _ =
    page_made vec_items pages c.loop-cell.self-inside.count _ c.index_mut.result.now c.make_page.new.words c.index_mut.ensures.value here c.in_ok-make_page.ensures.made c.loop-cell.invariant.paged in
    record {
      paged = more.paged;
      cells = more.cells ∙ c.loop-cell.invariant.cells;
      pages = more.made ∙ ap (with_number (get_or c.args.cells.now c.loop-cell.cell-index 0 / 32768)) c.loop-cell.invariant.pages ∙ pages_more c.args.self.now.pages c.args.cells.now c.loop-cell.cell-index (omega arith);
    }
