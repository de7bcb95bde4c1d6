use Rattle.std.proofs.Common.{◌++◌, ◌∙◌, List, ap, sym}
use Rattle.picture_model.specs.Items.{ItemValue}
use Rattle.camera_cut.proofs.ItemLaws.{items_seen}
use Rattle.splat_ppm.specs.Canvases.{drawn_keys}
use Rattle.splat_ppm.proofs.canvas.Canvas.draw_octree.Goals as goal

pub returns-clause-drawn : goal.returns-clause-drawn
returns-clause-drawn c before shows =
    c.draw_tree.ensures.drawn before shows
    ∙ ap (λ (seen : List ItemValue). drawn_keys c.draw_tree.new.self.camera (before ++ seen)) (sym (items_seen c.args.self.now.camera c.args.tree.now c.args.cube.now c.requires))
