use Rattle.std.proofs.Common.{◌≡◌, ◌++◌, ℕ, List, length, arith, ap, ◌∙◌}
use Rattle.octree_plain.specs.CellSets.{marked_cells}
use Rattle.octree_plain.proofs.Words.{no_marks, from_zero, refilled}
use Rattle.octree_plain.proofs.cell_set.CellSet.take.Goals as goal

pub returns-clause-cells : goal.returns-clause-cells
returns-clause-cells c =
    c.in_ok-push_marked_cells.ensures ∙ ap (λ (ks : List ℕ). c.new-cells.result.items ++ ks) (from_zero (marked_cells c.deref.result.now))
    ∙ ap (λ (ks : List ℕ). ks ++ marked_cells c.deref.result.now) c.new-cells.ensures.items ∙ ap marked_cells c.deref.ensures.value ∙ c.self.view_is

pub returns-clause-emptied : goal.returns-clause-emptied
returns-clause-emptied c =
    let kept : length c.self.inside.words.items ≡ c.self.inside.words.len = omega (arith, c.self.inside.words.ok) in
    let new : length c.clear.new.words ≡ c.self.inside.words.len = omega (arith, c.clear.auto.words, c.deref_mut.ensures.len, ap length c.deref_mut.ensures.value, kept) in
    ap marked_cells (refilled c.self.inside.words.len c.clear.new.words c.self.inside.words.items new kept) ∙ no_marks c.clear.new.words c.clear.ensures
