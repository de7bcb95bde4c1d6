use Rattle.std.proofs.Common.{◌-◌, arith}
use Rattle.octree_model.proofs.BagLaws.{same_points}
use Rattle.octree_model.proofs.laws.leaves_keep_points.Goals as goal

pub returns : goal.returns
returns c = λ leaf cube points test. same_points test leaf (cube.bits - 7) cube points (omega arith)
