use Rattle.std.proofs.Common.{◌*◌, ◌/◌, ◌%◌, ◌<◌, length, arith, ap, ◌∙◌, sym, not}
use Rattle.std.proofs.lemmas.Grind.{get_or_default_zero}
use Rattle.octree_model.specs.Numbers.{has, with_number}
use Rattle.octree_plain.proofs.Words.{bit_test, has-marked_cells, one_mark, few_marks, is_set, with_bit}
use Rattle.octree_plain.proofs.cell_set.CellSet.insert.Goals as goal

pub returns-clause-new : goal.returns-clause-new
returns-clause-new c =
    let within : c.args.cell % 64 < 64 = omega arith in
    let here : c.args.cell < 64 * length c.self.inside.words.items = omega arith in
    let word : c.args.cell / 64 < length c.self.inside.words.items = omega arith in
    bit_test c.index_mut-word.result.now (c.args.cell % 64) within
    ∙ ap (λ w. not (is_set w (c.args.cell % 64))) (c.index_mut-word.ensures.value ∙ get_or_default_zero c.self.inside.words.items (c.args.cell / 64) c.index_mut-word.result.now word)
    ∙ ap not (sym (has-marked_cells c.self.inside.words.items c.args.cell here) ∙ ap (has c.args.cell) c.self.view_is)

pub returns-clause-cells : goal.returns-clause-cells
returns-clause-cells c =
    let here : c.args.cell < 64 * length c.self.inside.words.items = omega arith in
    let word : c.args.cell / 64 < length c.self.inside.words.items = omega arith in
    one_mark c.self.inside.words.items c.args.cell _ here
    (ap (λ w. with_bit w (c.args.cell % 64)) (c.index_mut-word.ensures.value ∙ get_or_default_zero c.self.inside.words.items (c.args.cell / 64) c.index_mut-word.result.now word))
    ∙ ap (with_number c.args.cell) c.self.view_is

pub returns-clause-few : goal.returns-clause-few
returns-clause-few c = omega (arith, few_marks c.self.inside.words.items, ap length c.self.view_is)
