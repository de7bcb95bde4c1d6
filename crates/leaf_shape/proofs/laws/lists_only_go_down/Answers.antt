use Rattle.leaf_shape.proofs.ShapeLaws.{goes_down}
use Rattle.leaf_shape.proofs.laws.lists_only_go_down.Goals as goal

pub returns : goal.returns
returns c = goes_down
