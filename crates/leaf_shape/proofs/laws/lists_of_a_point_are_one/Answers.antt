use Rattle.leaf_shape.proofs.ShapeLaws.{one_list}
use Rattle.leaf_shape.proofs.laws.lists_of_a_point_are_one.Goals as goal

pub returns : goal.returns
returns c = one_list
