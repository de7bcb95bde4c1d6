use Rattle.std.proofs.Common.{◌≡◌, ◌++◌, List, map, take}
use Rattle.picture_model.specs.Items.{ItemValue}
use Rattle.camera_cut.specs.Descents.{children_seen, seen_in}
use Rattle.splat_ppm.specs.Canvases.{Shows}
use Rattle.splat_ppm.proofs.canvas.Canvas.+draw_tree.Given as goal

abbrev pub decreases-draw_tree : goal.decreases-draw_tree
decreases-draw_tree l = l.cube.bits

abbrev pub invariant-loop-g : goal.invariant-loop-g
invariant-loop-g l = record {
  camera : l.self.camera ≡ l.fn.self.camera;
  drawn : (before : List ItemValue) → Shows l.fn.self before → Shows l.self (before ++ children_seen l.fn.cube 0 (map (seen_in l.fn.self.camera) (take l.g l.t-items)));
}
