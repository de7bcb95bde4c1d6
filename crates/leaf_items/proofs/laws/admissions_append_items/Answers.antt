use Rattle.leaf_items.proofs.ValueLaws.{admitted_items, granted_admitted, owned_admitted}
use Rattle.leaf_items.proofs.laws.admissions_append_items.Goals as goal

pub returns-clause-items : goal.returns-clause-items
returns-clause-items c = λ value list. admitted_items value list

pub returns-clause-owned : goal.returns-clause-owned
returns-clause-owned c = λ value list early. owned_admitted value list early

pub returns-clause-granted : goal.returns-clause-granted
returns-clause-granted c = λ value list early. granted_admitted value list early
