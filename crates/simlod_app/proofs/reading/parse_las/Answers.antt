use Rattle.std.proofs.Common.{◌∙◌, ap, Some}
use Rattle.las_points.specs.Clouds.{CloudValue}
use Rattle.simlod_app.proofs.Files.{frame_read}
use Rattle.simlod_app.proofs.reading.parse_las.Goals as goal

pub returns-in-Ok-clause-frame : goal.returns-in-Ok-clause-frame
returns-in-Ok-clause-frame c = ap (λ (v : CloudValue). Some v.frame) c.cloud.view_is ∙ ap Some (frame_read _ c.args.bytes.now c.in-Ok.cloud c.in-Ok.ensures.cloud)
