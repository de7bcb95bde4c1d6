-- The chunks of a walk differ.
use Rattle.list_machine.proofs.WalkedLinks.{walk_is_short}
use Rattle.list_machine.proofs.laws.walks_are_short.Goals as goal

pub returns : goal.returns
returns c = λ s j chunks v walked sound. walk_is_short s.words s.owner s.guests j chunks v walked sound
