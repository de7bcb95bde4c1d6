use Rattle.std.proofs.Common.{◌+◌, ◌≤◌, List, ◌∙◌, subst, arith}
use Rattle.picture_model.specs.Items.{ItemValue}
use Rattle.frame_words.specs.Hands.{HasDrawn}
use Rattle.frame_words.specs.Parts.{all_items, portion}
use Rattle.frame_words.proofs.Cuts.{one_after}
use Rattle.frame_words.proofs.United.{united_drawn}
use Rattle.frame_words.proofs.portions.+portions.Goals as goal

pub draw_portion-returns : goal.draw_portion-returns
draw_portion-returns g t c =
    let camera = c.args.camera.now in let pixels = c.args.desk.now.shared.key in let all = all_items c.args.parts.now in
    let middle = c.args.first + c.share_of.result in
    let after : c.args.first ≤ middle = omega arith in
    let before : middle ≤ c.args.end = omega (arith, c.share_of.ensures, c.requires.parts.ordered) in
    let whole = one_after c.args.first middle c.args.end all after before in
    let table = c.unite.ensures.0 ∙ (c.draw_both.ensures.front.table_is ∙ c.split-other.ensures.giver.0) in
    subst (λ (xs : List ItemValue). HasDrawn camera pixels xs c.args.seat.now.table_id c.args.seat.now.me c.unite.new.seat.table_id c.unite.new.seat.me) whole
    (united_drawn camera pixels (portion c.args.first middle all) (portion middle c.args.end all) c.args.desk.now.shared.table_id
    c.args.seat.now.table_id c.split-other.new.seat.table_id c.draw_both.new.seat.table_id c.unite.new.seat.table_id
    c.split-other.result.table_id c.draw_both.new.other.table_id c.args.seat.now.me c.split-other.new.seat.me c.draw_both.new.seat.me
    c.draw_both.new.other.me c.split-other.result.me c.unite.new.seat.me
    c.requires.seat table c.split-other.ensures.giver.1 c.split-other.ensures.taker.1 c.unite.ensures.1 c.draw_both.ensures.front c.draw_both.ensures.back)
