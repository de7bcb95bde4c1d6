use Rattle.std.proofs.Common.{◌≡◌, ◌+◌, ◌*◌, ◌/◌, ◌%◌, ◌^◌, ◌<◌, ℕ, List, length, get_or, set, map, vec_items, arith, ap, ◌∙◌, sym, not, nat_eq, bit_and, refl, Vec, Global}
use Rattle.std.proofs.lemmas.List.{length-map, get_or_read}
use Rattle.std.specs.Vec.{with_item}
use Rattle.octree_model.specs.Numbers.{has, with_number}
use Rattle.octree_plain.proofs.Words.{bit_test, is_set, with_bit}
use Rattle.occupancy_grid.specs.Pages.{page_of, words_of}
use Rattle.occupancy_grid.specs.Grids.{GridValue}
use Rattle.occupancy_grid.proofs.PageLaws.{all_words, has-marked_cells, marked_cells-with_cell, made_pages-with_cell, few_cells, puts_paged, words_read, puts_cell, one_or_none, from_bool-lt}
use Rattle.occupancy_grid.proofs.grid.Grid.set.Goals as goal

pub index_mut-word-requires : goal.index_mut-word-requires
index_mut-word-requires c =
    let pages = c.self.inside.pages.items in
    let here : c.args.cell / 32768 < length pages = omega (arith, length-map pages vec_items, c.self.invariant.many) in
    let words = words_read vec_items pages (c.args.cell / 32768) c.index_mut-page.result.now c.index_mut-page.ensures.value here in
    let all = all_words (map vec_items pages) c.self.inside.count c.args.cell c.self.invariant c.requires.below (ap (λ (g : GridValue). has (page_of c.args.cell) g.pages) c.self.view_is ∙ c.requires.page) in
    omega (arith, ap length words, all, c.index_mut-page.result.now.ok)

pub overflow_add-self : goal.overflow_add-self
overflow_add-self c =
    let bound : c.from.result < 2 = omega (arith, c.from.ensures, from_bool-lt (nat_eq (bit_and c.index_mut-word.result.now (1 * 2 ^ (c.args.cell % 64) % 2 ^ 64)) 0)) in
    omega (arith, c.self.invariant.counted, c.self.invariant.many, few_cells (map vec_items c.self.inside.pages.items))

pub invariant_of-self : goal.invariant_of-self
invariant_of-self c =
    let pages = c.self.inside.pages.items in
    let here : c.args.cell / 32768 < length pages = omega (arith, length-map pages vec_items, c.self.invariant.many) in
    let words = words_read vec_items pages (c.args.cell / 32768) c.index_mut-page.result.now c.index_mut-page.ensures.value here in
    let all = all_words (map vec_items pages) c.self.inside.count c.args.cell c.self.invariant c.requires.below (ap (λ (g : GridValue). has (page_of c.args.cell) g.pages) c.self.view_is ∙ c.requires.page) in
    let at : c.index_mut-word.result.now ≡ get_or (words_of (map vec_items pages) (page_of c.args.cell)) (c.args.cell / 64 % 512) 0 =
    get_or_read c.index_mut-page.result.now.items _ _ (omega (arith, ap length words, all)) c.index_mut-word.ensures.value 0 ∙ ap (λ (ws : List ℕ). get_or ws (c.args.cell / 64 % 512) 0) words in
    puts_paged (map vec_items pages) _ c.self.inside.count _ c.args.cell (nat_eq (bit_and c.index_mut-word.result.now (1 * 2 ^ (c.args.cell % 64) % 2 ^ 64)) 0) c.self.invariant
    (puts_cell vec_items pages c.args.cell c.index_mut-word.result.now c.index_mut-page.result.now _ c.index_mut-page.ensures.value here (omega (arith, ap length words, all)) c.index_mut-word.ensures.value refl)
    c.requires.below (bit_test c.index_mut-word.result.now (c.args.cell % 64) (omega arith) ∙ ap (λ w. not (is_set w (c.args.cell % 64))) at)
    (ap (λ n. c.self.inside.count + n) (c.from.ensures ∙ one_or_none _))

pub returns-clause-new : goal.returns-clause-new
returns-clause-new c =
    let pages = c.self.inside.pages.items in
    let here : c.args.cell / 32768 < length pages = omega (arith, length-map pages vec_items, c.self.invariant.many) in
    let words = words_read vec_items pages (c.args.cell / 32768) c.index_mut-page.result.now c.index_mut-page.ensures.value here in
    let all = all_words (map vec_items pages) c.self.inside.count c.args.cell c.self.invariant c.requires.below (ap (λ (g : GridValue). has (page_of c.args.cell) g.pages) c.self.view_is ∙ c.requires.page) in
    let at : c.index_mut-word.result.now ≡ get_or (words_of (map vec_items pages) (page_of c.args.cell)) (c.args.cell / 64 % 512) 0 =
    get_or_read c.index_mut-page.result.now.items _ _ (omega (arith, ap length words, all)) c.index_mut-word.ensures.value 0 ∙ ap (λ (ws : List ℕ). get_or ws (c.args.cell / 64 % 512) 0) words in
    bit_test c.index_mut-word.result.now (c.args.cell % 64) (omega arith) ∙ ap (λ w. not (is_set w (c.args.cell % 64))) at
    ∙ ap not (sym (has-marked_cells (map vec_items pages) c.args.cell (omega (arith, c.self.invariant.many))) ∙ ap (λ (g : GridValue). has c.args.cell g.cells) c.self.view_is)

pub returns-clause-set : goal.returns-clause-set
returns-clause-set c =
    let pages = c.self.inside.pages.items in
    let here : c.args.cell / 32768 < length pages = omega (arith, length-map pages vec_items, c.self.invariant.many) in
    let words = words_read vec_items pages (c.args.cell / 32768) c.index_mut-page.result.now c.index_mut-page.ensures.value here in
    let all = all_words (map vec_items pages) c.self.inside.count c.args.cell c.self.invariant c.requires.below (ap (λ (g : GridValue). has (page_of c.args.cell) g.pages) c.self.view_is ∙ c.requires.page) in
    let puts = λ (page' : Vec ℕ Global) (e : page'.items ≡ set c.index_mut-page.result.now.items (c.args.cell / 64 % 512) (with_bit c.index_mut-word.result.now (c.args.cell % 64))).
    puts_cell vec_items pages c.args.cell c.index_mut-word.result.now c.index_mut-page.result.now page' c.index_mut-page.ensures.value here (omega (arith, ap length words, all)) c.index_mut-word.ensures.value e in
    λ i. record {
      cells = (marked_cells-with_cell (map vec_items pages) _ c.args.cell (puts (with_item c.index_mut-page.result.now (c.args.cell / 64 % 512) (with_bit c.index_mut-word.result.now (c.args.cell % 64))) refl) (omega (arith, c.self.invariant.many)) ∙ ap (λ (g : GridValue). with_number c.args.cell g.cells) c.self.view_is) i;
      pages = (made_pages-with_cell (map vec_items pages) _ c.args.cell (puts (with_item c.index_mut-page.result.now (c.args.cell / 64 % 512) (with_bit c.index_mut-word.result.now (c.args.cell % 64))) refl) ∙ ap (λ (g : GridValue). g.pages) c.self.view_is) i;
    }
