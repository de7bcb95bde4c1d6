-- Past the swept places there are no items.
use Rattle.list_machine.proofs.Sweeps.{guest_item_is_swept}
use Rattle.list_machine.proofs.sweep_laws.items_of_guests_are_swept.Goals as goal

pub returns : goal.returns
returns c = λ s j l c k x p f m q v a sound at known leaf shut. guest_item_is_swept s sound l p f m a leaf shut j c k x q v at known
