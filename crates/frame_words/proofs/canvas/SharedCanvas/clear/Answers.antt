use Rattle.std.proofs.Common.{◌*◌, ap, ◌∙◌, sym}
use Rattle.splat_ppm.specs.Canvases.{CanvasValue}
use Rattle.splat_ppm.proofs.Shown.{nothing_drawn}
use Rattle.frame_words.proofs.canvas.SharedCanvas.clear.Goals as goal

pub returns-clause-empty : goal.returns-clause-empty
returns-clause-empty c =
    c.wipe_all.ensures.wiped ∙ nothing_drawn c.args.camera.now _ (c.self.invariant.canvas.pixels_are
    ∙ ap (λ (v : CanvasValue). v.camera.width * v.camera.height) c.self.view_is ∙ sym c.requires.pixels)
