use Rattle.octree_model.specs.Octree.{octree}
use Rattle.octree_model.specs.Outlines.{outline}
use Rattle.camera_cut.proofs.CutLaws.{outline_ordered}
use Rattle.camera_cut.proofs.OrderLaws.{in_order}
use Rattle.camera_cut.proofs.laws.outline_is_in_path_order.Goals as goal

pub returns : goal.returns
returns c = λ leaf cube points. in_order (outline (octree leaf cube points) cube) (outline_ordered leaf cube points)
