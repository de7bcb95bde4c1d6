use Rattle.camera_cut.proofs.ShowingLaws.{items_of_cut}
use Rattle.camera_cut.proofs.laws.cut_has_the_items.Goals as goal

pub returns : goal.returns
returns c = items_of_cut
