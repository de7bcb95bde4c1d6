use Rattle.std.proofs.Common.{◌≡◌, ◌/◌, ◌<◌, ℕ, List, length, map, vec_items, arith, ap, ◌∙◌, sym, not, nat_eq}
use Rattle.std.proofs.lemmas.List.{length-map}
use Rattle.octree_model.specs.Numbers.{has}
use Rattle.occupancy_grid.specs.Pages.{page_of}
use Rattle.occupancy_grid.specs.Grids.{GridValue}
use Rattle.occupancy_grid.proofs.PageLaws.{has-made_pages, words_read}
use Rattle.occupancy_grid.proofs.grid.Grid.has_page.Goals as goal

pub returns : goal.returns
returns c =
    let pages = c.self.inside.pages.items in
    let here : c.args.cell / 32768 < length pages = omega (arith, length-map pages vec_items, c.self.invariant.many) in
    let long : length c.index.result.now.items ≡ c.index.result.now.len = omega (arith, c.index.result.now.ok) in
    ap not (c.is_empty.ensures ∙ ap (λ n. nat_eq n 0) (sym long))
    ∙ ap (λ (ws : List ℕ). not (nat_eq (length ws) 0)) (words_read vec_items pages (c.args.cell / 32768) c.index.result.now c.index.ensures here)
    ∙ sym (has-made_pages (map vec_items pages) (page_of c.args.cell) (omega (arith, c.self.invariant.many)))
    ∙ ap (λ (g : GridValue). has (page_of c.args.cell) g.pages) c.self.view_is
