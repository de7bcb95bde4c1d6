use Rattle.item_moves.proofs.StayLaws.{settled_stays}
use Rattle.item_moves.proofs.laws.settled_items_stay_settled.Goals as goal

pub returns : goal.returns
returns c s t leaf covers homes left same = settled_stays s t same leaf covers homes left
