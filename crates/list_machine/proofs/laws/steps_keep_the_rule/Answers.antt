-- Each kind of step has its own proof.
use Rattle.list_machine.proofs.Keeping.{step_sound}
use Rattle.list_machine.proofs.laws.steps_keep_the_rule.Goals as goal

pub returns : goal.returns
returns c = step_sound
