use Rattle.std.proofs.Common.{◌<◌, length, get_or, refl}
use Rattle.least_runs.proofs.MarkLaws.{one_more, one_slice}
use Rattle.least_runs.proofs.cell_marks.cells_in.Goals as goal

pub loop-word-preserved : goal.loop-word-preserved
loop-word-preserved c =
    let i = c.loop-word.word-index in
    let low : get_or c.args.touched.now i 0 < length c.args.words.now = c.requires.within i 0 c.loop-word-test.true in
    one_more c.args.words.now c.args.touched.now c.loop-word.cells.items c.push_marked_cells.new.cells.items _ i (get_or c.args.touched.now i 0) c.loop-word-test.true refl
    (one_slice c.args.words.now (get_or c.args.touched.now i 0) low) c.loop-word.invariant c.in_ok-push_marked_cells.ensures
