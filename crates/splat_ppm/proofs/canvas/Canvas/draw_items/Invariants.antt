use Rattle.std.proofs.Common.{◌≡◌, ◌++◌, List, take}
use Rattle.picture_model.specs.Items.{ItemValue}
use Rattle.splat_ppm.specs.Canvases.{Shows}
use Rattle.splat_ppm.proofs.canvas.Canvas.draw_items.Given as goal

abbrev pub invariant-loop-item : goal.invariant-loop-item
invariant-loop-item l = record {
  camera : l.self.camera ≡ l.fn.self.camera;
  drawn : (before : List ItemValue) → Shows l.fn.self before → Shows l.self (before ++ take l.item-index l.items);
}
