use Rattle.std.proofs.Common.{◌*◌, ◌∙◌}
use Rattle.splat_ppm.proofs.Shown.{nothing_drawn}
use Rattle.splat_ppm.proofs.canvas.Canvas.new.Goals as goal

pub returns-clause-empty : goal.returns-clause-empty
returns-clause-empty c = c.in_ok-vec.ensures.items_if_clones_equal (λ y same. same) ∙ nothing_drawn c.args.camera.now _ (λ j. c.width.ensures.value j * c.height.ensures.value j)
