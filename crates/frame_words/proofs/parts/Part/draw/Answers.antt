use Rattle.std.proofs.Common.{List, map, ap, sym, subst, ◌∙◌}
use Rattle.picture_model.specs.Items.{ItemValue, point_item, voxel_item}
use Rattle.frame_words.specs.Hands.{Adds}
use Rattle.frame_words.specs.Parts.{part_items, portion}
use Rattle.frame_words.proofs.Cuts.{mapped, sliced}
use Rattle.frame_words.proofs.parts.Part.draw.Goals as goal

pub returns-in-Items-clause-drawn : goal.returns-in-Items-clause-drawn
returns-in-Items-clause-drawn c =
    let same = sliced c.args.first c.args.end c.in-Items.items.now c.requires.ordered
    ∙ ap (λ p. portion c.args.first c.args.end (part_items p)) (sym c.in-Items.is) in
    subst (λ (xs : List ItemValue). Adds c.args.camera.now xs c.args.seat.now.me.0.keys c.draw_items.new.seat.me.0.keys) same c.draw_items.ensures.drawn

pub returns-in-Points-clause-drawn : goal.returns-in-Points-clause-drawn
returns-in-Points-clause-drawn c =
    let same = ap (map point_item) (sliced c.args.first c.args.end c.in-Points.points.now c.requires.ordered)
    ∙ sym (mapped point_item c.args.first c.args.end c.in-Points.points.now)
    ∙ ap (λ p. portion c.args.first c.args.end (part_items p)) (sym c.in-Points.is) in
    subst (λ (xs : List ItemValue). Adds c.args.camera.now xs c.args.seat.now.me.0.keys c.draw_points.new.seat.me.0.keys) same c.draw_points.ensures.drawn

pub returns-in-Voxels-clause-drawn : goal.returns-in-Voxels-clause-drawn
returns-in-Voxels-clause-drawn c =
    let item = voxel_item c.in-Voxels.cube in
    let same = ap (map item) (sliced c.args.first c.args.end c.in-Voxels.voxels.now c.requires.ordered)
    ∙ sym (mapped item c.args.first c.args.end c.in-Voxels.voxels.now)
    ∙ ap (λ p. portion c.args.first c.args.end (part_items p)) (sym c.in-Voxels.is) in
    subst (λ (xs : List ItemValue). Adds c.args.camera.now xs c.args.seat.now.me.0.keys c.draw_voxels.new.seat.me.0.keys) same c.draw_voxels.ensures.drawn
