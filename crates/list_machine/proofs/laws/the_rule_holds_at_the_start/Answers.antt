-- The words are 0, and there are no chains, facts or guests.
use Rattle.list_machine.proofs.Openings.{opening_sound}
use Rattle.list_machine.proofs.laws.the_rule_holds_at_the_start.Goals as goal

pub returns : goal.returns
returns c = opening_sound
