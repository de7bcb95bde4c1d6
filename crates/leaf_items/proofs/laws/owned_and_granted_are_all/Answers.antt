use Rattle.leaf_items.specs.Items.{born_of, items_of}
use Rattle.leaf_items.proofs.ItemLaws.{parted}
use Rattle.leaf_items.proofs.laws.owned_and_granted_are_all.Goals as goal

pub returns : goal.returns
returns c = λ value list. parted (items_of value list) (born_of value list)
