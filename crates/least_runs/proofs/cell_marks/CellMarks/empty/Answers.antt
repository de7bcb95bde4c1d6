use Rattle.std.proofs.Common.{◌≡◌, ◌/◌, ℕ, List, length, get_or, arith, ap, sym, ◌∙◌}
use Rattle.octree_plain.specs.CellSets.{marked_cells}
use Rattle.octree_plain.proofs.Words.{no_marks, refilled}
use Rattle.least_runs.proofs.MarkLaws.{none_above}
use Rattle.least_runs.proofs.cell_marks.CellMarks.empty.Goals as goal

pub clear_below-requires-clause-known : goal.clear_below-requires-clause-known
clear_below-requires-clause-known c = λ w some gone.
    none_above c.self.inside.words.items c.self.inside.upper.items c.self.invariant w (λ e. some (ap (λ (ws : List ℕ). get_or ws w 0) c.deref_mut.ensures.value ∙ e))
    (ap (λ (ws : List ℕ). get_or ws (w / 64) 0) (sym c.deref.ensures.value) ∙ gone)

pub returns : goal.returns
returns c =
    let kept : length c.self.inside.words.items ≡ c.self.inside.words.len = omega (arith, c.self.inside.words.ok) in
    let new : length c.clear_below.new.words ≡ c.self.inside.words.len = omega (arith, c.clear_below.auto.words, c.deref_mut.ensures.len, ap length c.deref_mut.ensures.value, kept) in
    ap marked_cells (refilled c.self.inside.words.len c.clear_below.new.words c.self.inside.words.items new kept) ∙ no_marks c.clear_below.new.words (λ k l. c.clear_below.ensures k)
