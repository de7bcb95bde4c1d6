use Rattle.std.proofs.Common.{◌≡◌, ◌++◌, List, map, take}
use Rattle.picture_model.specs.Items.{ItemValue, voxel_item}
use Rattle.splat_ppm.specs.Canvases.{Shows}
use Rattle.splat_ppm.proofs.canvas.Canvas.draw_voxels.Given as goal

abbrev pub invariant-loop-voxel : goal.invariant-loop-voxel
invariant-loop-voxel l = record {
  camera : l.self.camera ≡ l.fn.self.camera;
  drawn : (items : List ItemValue) → Shows l.fn.self items → Shows l.self (items ++ map (voxel_item l.fn.cube) (take l.voxel-index l.voxels));
}
