-- Past the swept places there are no items.
use Rattle.list_machine.proofs.Knowledge.{item_is_swept}
use Rattle.list_machine.proofs.laws.items_are_swept.Goals as goal

pub returns : goal.returns
returns c = λ s l c k x p f m q a sound. item_is_swept s.words s.owner s.guests sound l c k x p f m q a
