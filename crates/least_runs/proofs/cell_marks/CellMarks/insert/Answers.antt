use Rattle.std.proofs.Common.{◌*◌, ◌/◌, ◌%◌, ◌<◌, length, arith, ap, ◌∙◌}
use Rattle.std.proofs.lemmas.Grind.{get_or_default_zero}
use Rattle.octree_model.specs.Numbers.{with_number}
use Rattle.octree_plain.proofs.Words.{one_mark, with_bit}
use Rattle.least_runs.proofs.MarkLaws.{marks_more}
use Rattle.least_runs.proofs.cell_marks.CellMarks.insert.Goals as goal

pub invariant_of-self : goal.invariant_of-self
invariant_of-self c =
    let above : c.args.cell / 64 / 64 < length c.self.inside.upper.items = omega (arith, c.requires, c.self.invariant.upper_long) in
    marks_more c.self.inside.words.items c.self.inside.upper.items c.args.cell _ _ c.self.invariant c.requires
    (ap (λ w. with_bit w (c.args.cell / 64 % 64)) (c.index_mut-above.ensures.value ∙ get_or_default_zero c.self.inside.upper.items (c.args.cell / 64 / 64) c.index_mut-above.result.now above))

pub returns : goal.returns
returns c =
    let here : c.args.cell < 64 * length c.self.inside.words.items = omega (arith, c.requires, c.self.invariant.words_long) in
    let word : c.args.cell / 64 < length c.self.inside.words.items = omega arith in
    one_mark c.self.inside.words.items c.args.cell _ here
    (ap (λ w. with_bit w (c.args.cell % 64)) (c.index_mut-word.ensures.value ∙ get_or_default_zero c.self.inside.words.items (c.args.cell / 64) c.index_mut-word.result.now word))
    ∙ ap (with_number c.args.cell) c.self.view_is
