use Rattle.std.proofs.Common.{◌≡◌, ◌/◌, ◌%◌, ◌<◌, ℕ, List, length, get_or, map, vec_items, arith, ap, ◌∙◌, sym, not, Bool, true, false, nat_eq, refl, ◌≢◌}
use Rattle.std.proofs.lemmas.Bool.{eqb-true, eqb-false, ne_eqb}
use Rattle.std.proofs.lemmas.List.{length-map, get_or_past, get_or_read}
use Rattle.std.proofs.lemmas.Nat.Bits.{bit_at-zero}
use Rattle.octree_model.specs.Numbers.{has}
use Rattle.octree_plain.proofs.Words.{bit_test, is_set}
use Rattle.occupancy_grid.specs.Pages.{page_of, words_of}
use Rattle.occupancy_grid.specs.Grids.{GridValue}
use Rattle.occupancy_grid.proofs.PageLaws.{has-marked_cells, words_read}
use Rattle.occupancy_grid.proofs.grid.Grid.test.Goals as goal

pub returns-then-is_empty : goal.returns-then-is_empty
returns-then-is_empty c =
    let pages = c.self.inside.pages.items in
    let here : c.args.cell / 32768 < length pages = omega (arith, length-map pages vec_items, c.self.invariant.many) in
    let none : c.index-page.result.now.len ≡ 0 = eqb-true _ _ (sym c.is_empty.ensures ∙ c.if-is_empty.true) in
    let long : length c.index-page.result.now.items ≡ 0 = omega (arith, c.index-page.result.now.ok) in
    let words = words_read vec_items pages (c.args.cell / 32768) c.index-page.result.now c.index-page.ensures here in
    sym (ap (λ (ws : List ℕ). is_set (get_or ws (c.args.cell / 64 % 512) 0) (c.args.cell % 64)) (sym words)
    ∙ ap (λ w. is_set w (c.args.cell % 64)) (get_or_past c.index-page.result.now.items (c.args.cell / 64 % 512) 0 (omega arith))
    ∙ ap (λ n. nat_eq n 1) (bit_at-zero (c.args.cell % 64)))
    ∙ sym (has-marked_cells (map vec_items pages) c.args.cell (omega (arith, c.self.invariant.many)))
    ∙ ap (λ (g : GridValue). has c.args.cell g.cells) c.self.view_is

pub index-requires : goal.index-requires
index-requires c =
    let pages = c.self.inside.pages.items in
    let here : c.args.cell / 32768 < length pages = omega (arith, length-map pages vec_items, c.self.invariant.many) in
    let words = words_read vec_items pages (c.args.cell / 32768) c.index-page.result.now c.index-page.ensures here in
    let some : c.index-page.result.now.len ≢ 0 = eqb-false _ _ (sym c.is_empty.ensures ∙ c.if-is_empty.false) in
    let long : length c.index-page.result.now.items ≡ c.index-page.result.now.len = omega (arith, c.index-page.result.now.ok) in
    let all = c.self.invariant.whole (c.args.cell / 32768) (ap (λ (ws : List ℕ). not (nat_eq (length ws) 0)) (sym words) ∙ ap not (ne_eqb _ _ (λ e. some (sym long ∙ e)))) in
    omega (arith, ap length words, all)

twice_not : (b : Bool) → not (not b) ≡ b
twice_not true = refl
twice_not false = refl

pub returns : goal.returns
returns c =
    let pages = c.self.inside.pages.items in
    let here : c.args.cell / 32768 < length pages = omega (arith, length-map pages vec_items, c.self.invariant.many) in
    let words = words_read vec_items pages (c.args.cell / 32768) c.index-page.result.now c.index-page.ensures here in
    let some : c.index-page.result.now.len ≢ 0 = eqb-false _ _ (sym c.is_empty.ensures ∙ c.if-is_empty.false) in
    let long : length c.index-page.result.now.items ≡ c.index-page.result.now.len = omega (arith, c.index-page.result.now.ok) in
    let all = c.self.invariant.whole (c.args.cell / 32768) (ap (λ (ws : List ℕ). not (nat_eq (length ws) 0)) (sym words) ∙ ap not (ne_eqb _ _ (λ e. some (sym long ∙ e)))) in
    let at : c.index.result.now ≡ get_or (words_of (map vec_items pages) (page_of c.args.cell)) (c.args.cell / 64 % 512) 0 =
    get_or_read c.index-page.result.now.items _ _ (omega (arith, ap length words, all)) c.index.ensures 0 ∙ ap (λ (ws : List ℕ). get_or ws (c.args.cell / 64 % 512) 0) words in
    ap not (bit_test c.index.result.now (c.args.cell % 64) (omega arith)) ∙ twice_not _ ∙ ap (λ w. is_set w (c.args.cell % 64)) at
    ∙ sym (has-marked_cells (map vec_items pages) c.args.cell (omega (arith, c.self.invariant.many)))
    ∙ ap (λ (g : GridValue). has c.args.cell g.cells) c.self.view_is
