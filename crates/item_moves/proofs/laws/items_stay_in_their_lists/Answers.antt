use Rattle.item_moves.proofs.StayLaws.{back_items, granted_items, linked_items, out_items, same_twice}
use Rattle.item_moves.proofs.laws.items_stay_in_their_lists.Goals as goal

pub returns : goal.returns
returns c = record { linked = linked_items; granted = granted_items; out = out_items; back = back_items; both = same_twice }
