use Rattle.leaf_shape.proofs.ShapeLaws.{stays_elsewhere}
use Rattle.leaf_shape.proofs.laws.lists_elsewhere_stay.Goals as goal

pub returns : goal.returns
returns c = stays_elsewhere
