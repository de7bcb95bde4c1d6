use Rattle.std.proofs.Common.{◌≡◌, ◌++◌, ◌*◌, ℕ, List, length, arith, ap, sym, subst, ◌∙◌}
use Rattle.std.specs.Prelude.{IfOk}
use Rattle.octree_plain.specs.CellSets.{marked_cells}
use Rattle.octree_plain.proofs.Words.{from_zero}
use Rattle.least_runs.specs.Marks.{cells_of_words}
use Rattle.least_runs.proofs.MarkLaws.{listed, marks_within}
use Rattle.least_runs.proofs.cell_marks.CellMarks.list.Goals as goal

pub cells_in-requires-clause-within : goal.cells_in-requires-clause-within
cells_in-requires-clause-within c =
    let touched : c.deref-3.result.now ≡ marked_cells c.self.inside.upper.items =
    c.deref-3.ensures.value ∙ c.in_ok-push_marked_cells.ensures ∙ ap (λ (ks : List ℕ). c.new-touched.result.items ++ ks) (from_zero (marked_cells c.deref.result.now))
    ∙ ap (λ (ks : List ℕ). ks ++ marked_cells c.deref.result.now) c.new-touched.ensures.items ∙ ap marked_cells c.deref.ensures.value in
    marks_within c.self.inside.upper.items c.deref-3.result.now (length c.deref-2.result.now) touched (omega (arith, ap length c.deref-2.ensures.value, c.self.invariant.words_long, c.self.invariant.upper_long))

pub returns : goal.returns
returns c =
    let touched : c.deref-3.result.now ≡ marked_cells c.self.inside.upper.items =
    c.deref-3.ensures.value ∙ c.in_ok-push_marked_cells.ensures ∙ ap (λ (ks : List ℕ). c.new-touched.result.items ++ ks) (from_zero (marked_cells c.deref.result.now))
    ∙ ap (λ (ks : List ℕ). ks ++ marked_cells c.deref.result.now) c.new-touched.ensures.items ∙ ap marked_cells c.deref.ensures.value in
    let all : cells_of_words c.deref-2.result.now c.deref-3.result.now ≡ c.args.self.now =
    (λ i. cells_of_words (c.deref-2.ensures.value i) (touched i)) ∙ listed c.self.inside.words.items c.self.inside.upper.items c.self.invariant ∙ c.self.view_is in
    subst (λ (xs : List ℕ). IfOk c.cells_in.result (λ cells. cells.items ≡ xs)) all c.cells_in.ensures
