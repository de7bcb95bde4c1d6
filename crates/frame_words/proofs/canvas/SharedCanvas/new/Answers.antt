use Rattle.std.proofs.Common.{◌*◌, ap, ◌∙◌}
use Rattle.splat_ppm.proofs.Shown.{nothing_drawn}
use Rattle.frame_words.proofs.canvas.SharedCanvas.new.Goals as goal

pub returns-clause-empty : goal.returns-clause-empty
returns-clause-empty c = ap (λ m. m.0.keys) c.in_ok-desk.ensures.4 ∙ nothing_drawn c.args.camera.now _ (λ j. c.width.ensures.value j * c.height.ensures.value j)
