use Rattle.leaf_items.proofs.ItemLaws.{items_ascend}
use Rattle.leaf_items.proofs.ValueLaws.{is_among, is_in}
use Rattle.leaf_items.proofs.laws.items_are_those_in_a_list.Goals as goal

pub returns-clause-are : goal.returns-clause-are
returns-clause-are c = λ value list item. (is_among value.leaf list item, is_in value.leaf list item)

pub returns-clause-ascend : goal.returns-clause-ascend
returns-clause-ascend c = λ value list. items_ascend value.leaf list
