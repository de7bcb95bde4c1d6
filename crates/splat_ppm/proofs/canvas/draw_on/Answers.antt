use Rattle.std.proofs.Common.{◌≡◌, ◌∙◌, subst}
use Rattle.splat_ppm.specs.Lowering.{AreLowered, lies_in_square}
use Rattle.splat_ppm.proofs.canvas.draw_on.Goals as goal

pub returns-in_default-clause-drawn : goal.returns-in_default-clause-drawn
returns-in_default-clause-drawn c items shows = shows ∙ c.in_default.ensures.nothing items

pub returns-clause-drawn : goal.returns-clause-drawn
returns-clause-drawn c items shows =
    let s = c.in-Some.square in
    c.in-Some.ensures.drawn items c.args.keys.now c.lower_square.new.keys shows
    (subst (λ w. AreLowered (lies_in_square w s.left s.right s.top s.bottom) s.key c.args.keys.now c.lower_square.new.keys) c.width.ensures.value c.lower_square.ensures)
