use Rattle.leaf_items.proofs.ValueLaws.{granted_new, granted_same, owned_same}
use Rattle.leaf_items.proofs.laws.new_lists_own_their_items.Goals as goal

pub returns-clause-new : goal.returns-clause-new
returns-clause-new c = λ value parts part low. granted_new value parts part low

pub returns-clause-owned : goal.returns-clause-owned
returns-clause-owned c = λ value parts list low other. owned_same value parts list low other

pub returns-clause-granted : goal.returns-clause-granted
returns-clause-granted c = λ value parts list low other. granted_same value parts list low other
