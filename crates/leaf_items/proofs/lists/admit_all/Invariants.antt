use Rattle.std.proofs.Common.{◌≡◌, ◌+◌, ◌++◌, ◌≤◌, drop, take, vec_len}
use Rattle.std.specs.Vec.{vec_capacity}
use Rattle.leaf_items.specs.Kept.{AreLists, births}
use Rattle.leaf_items.proofs.lists.admit_all.Given as goal

abbrev pub invariant-loop-list : goal.invariant-loop-list
invariant-loop-list l = record {
  lists : AreLists l.leaf.items (drop l.list-index l.ready) l.lists.items;
  leaf : l.leaf.items ≡ l.fn.leaf.items ++ take l.list-index l.ready;
  births : births l.lists.items ≡ births l.fn.lists.items;
  leaf_len : vec_len l.leaf ≡ vec_len l.fn.leaf + l.list-index;
  leaf_room : vec_capacity l.fn.leaf ≤ vec_capacity l.leaf;
  len : vec_len l.lists ≡ vec_len l.fn.lists;
  capacity : vec_capacity l.lists ≡ vec_capacity l.fn.lists;
}
