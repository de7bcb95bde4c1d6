use Rattle.std.proofs.Common.{◌≡◌, ◌++◌, List, map, take}
use Rattle.picture_model.specs.Items.{ItemValue, point_item}
use Rattle.splat_ppm.specs.Canvases.{Shows}
use Rattle.splat_ppm.proofs.canvas.Canvas.draw_points.Given as goal

abbrev pub invariant-loop-point : goal.invariant-loop-point
invariant-loop-point l = record {
  camera : l.self.camera ≡ l.fn.self.camera;
  drawn : (items : List ItemValue) → Shows l.fn.self items → Shows l.self (items ++ map point_item (take l.point-index l.points));
}
