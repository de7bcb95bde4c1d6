-- A guest that is out keeps its facts, and the rule says that they are true.
use Rattle.list_machine.proofs.Keeping.{facts_outlast}
use Rattle.list_machine.proofs.laws.facts_outlast_steps.Goals as goal

pub returns : goal.returns
returns c = facts_outlast
