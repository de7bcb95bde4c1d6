use Rattle.std.proofs.Common.{◌≡◌, take}
use Rattle.leaf_items.proofs.items.LeafItems.reserve.Given as goal

abbrev pub invariant-loop-list : goal.invariant-loop-list
invariant-loop-list l = l.self ≡ record l.fn.self { ready = take l.list-index l.lists }
