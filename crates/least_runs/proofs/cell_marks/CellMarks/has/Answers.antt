use Rattle.std.proofs.Common.{◌*◌, ◌/◌, ◌%◌, ◌<◌, length, arith, ap, ◌∙◌, sym, not}
use Rattle.std.proofs.lemmas.Grind.{get_or_default_zero}
use Rattle.octree_model.specs.Numbers.{has}
use Rattle.octree_plain.proofs.Words.{bit_test, has-marked_cells, few_marks, is_set}
use Rattle.least_runs.proofs.MarkLaws.{not_not}
use Rattle.least_runs.proofs.cell_marks.CellMarks.has.Goals as goal

pub returns-clause-value : goal.returns-clause-value
returns-clause-value c =
    let within : c.args.cell % 64 < 64 = omega arith in
    let here : c.args.cell < 64 * length c.self.inside.words.items = omega (arith, c.requires, c.self.invariant.words_long) in
    let word : c.args.cell / 64 < length c.self.inside.words.items = omega arith in
    ap not (bit_test c.index.result.now (c.args.cell % 64) within) ∙ not_not (is_set c.index.result.now (c.args.cell % 64))
    ∙ ap (λ w. is_set w (c.args.cell % 64)) (c.index.ensures ∙ get_or_default_zero c.self.inside.words.items (c.args.cell / 64) c.index.result.now word)
    ∙ sym (has-marked_cells c.self.inside.words.items c.args.cell here) ∙ ap (has c.args.cell) c.self.view_is

pub returns-clause-few : goal.returns-clause-few
returns-clause-few c = omega (arith, few_marks c.self.inside.words.items, ap length c.self.view_is, c.self.invariant.words_long)
