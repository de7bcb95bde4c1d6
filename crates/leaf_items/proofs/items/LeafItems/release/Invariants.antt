use Rattle.std.proofs.Common.{◌≡◌, vec_len}
use Rattle.leaf_items.specs.Kept.{IsKept, births}
use Rattle.leaf_items.proofs.items.LeafItems.release.Given as goal

abbrev pub invariant-loop-list : goal.invariant-loop-list
invariant-loop-list l = record {
  kept : IsKept l.self-inside;
  leaf : l.self-inside.leaf.items ≡ l.initial.self-inside.leaf.items;
  born : births l.self-inside.lists.items ≡ births l.initial.self-inside.lists.items;
  rooms : l.self-inside.rooms ≡ l.initial.self-inside.rooms;
}

abbrev pub decreases-loop-list : goal.decreases-loop-list
decreases-loop-list l = vec_len l.self-inside.ready
