-- The owner forgets of a list only when it begins to clear it.
use Rattle.list_machine.proofs.Outlasting.{owner_outlasts}
use Rattle.list_machine.proofs.laws.facts_of_the_owner_outlast_steps.Goals as goal

pub returns : goal.returns
returns c = owner_outlasts
