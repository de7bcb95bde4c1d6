use Rattle.splat_ppm.proofs.SameItems.{same_frame}
use Rattle.splat_ppm.proofs.laws.order_of_items_is_of_no_matter.Goals as goal

pub returns : goal.returns
returns c = same_frame c.args.camera.now c.args.first.now c.args.second.now
