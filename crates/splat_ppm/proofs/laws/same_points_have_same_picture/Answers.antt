use Rattle.std.proofs.Common.{ap}
use Rattle.picture_model.specs.Pictures.{ppm}
use Rattle.splat_ppm.proofs.SameItems.{same_frame}
use Rattle.splat_ppm.proofs.SamePoints.{same_items}
use Rattle.splat_ppm.proofs.laws.same_points_have_same_picture.Goals as goal

pub returns : goal.returns
returns c same =
    ap ppm (same_frame c.args.camera.now _ _ (same_items c.args.camera.now c.args.leaf c.args.cube.now c.args.first.now c.args.second.now same))
