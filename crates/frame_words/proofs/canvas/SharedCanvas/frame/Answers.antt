use Rattle.std.proofs.Common.{◌≡◌, ◌<◌, ◌*◌, ◌/◌, ◌%◌, ◌^◌, map, ap, ◌∙◌, sym, subst}
use Rattle.std.specs.List.{All}
use Rattle.octree_model.specs.Numbers.{up_to}
use Rattle.picture_model.specs.Cameras.{CameraValue}
use Rattle.picture_model.specs.Frames.{pixel_colour, frame}
use Rattle.splat_ppm.specs.Canvases.{CanvasValue}
use Rattle.splat_ppm.proofs.Shown.{colours_small, colours_drawn}
use Rattle.frame_words.proofs.canvas.SharedCanvas.frame.Goals as goal

pub new-requires-clause-colours : goal.new-requires-clause-colours
new-requires-clause-colours c = subst (All (λ rgb. rgb < 2 ^ 24)) (sym c.in_ok-colours.ensures.colours) (colours_small c.self.inside.seat.me.0.keys)

pub returns-clause-frame : goal.returns-clause-frame
unfolding frame
returns-clause-frame c items shows =
    let camera : CameraValue = c.args.self.now.camera in
    let colours : c.in_ok-colours.colours.items ≡ map (λ k. pixel_colour camera items (k % camera.width) (k / camera.width)) (up_to (camera.width *
    camera.height)) =
    c.in_ok-colours.ensures.colours ∙ ap (map (λ key. key % 2 ^ 24)) (ap (λ (v : CanvasValue). v.keys) c.self.view_is ∙ shows) ∙ colours_drawn camera items in
    let width : c.width.result ≡ camera.width = c.width.ensures.value ∙ ap (λ (v : CanvasValue). v.camera.width) c.self.view_is in
    let height : c.height.result ≡ camera.height = c.height.ensures.value ∙ ap (λ (v : CanvasValue). v.camera.height) c.self.view_is in
    c.new.ensures ∙ (λ j. record { width = width j; height = height j; colours = colours j })
