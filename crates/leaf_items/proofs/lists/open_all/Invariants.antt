use Rattle.std.proofs.Common.{◌≡◌, ◌+◌, ◌++◌, ◌≤◌, length, map, vec_items, vec_len}
use Rattle.std.specs.Vec.{vec_capacity}
use Rattle.leaf_items.specs.Lists.{opened_lists}
use Rattle.leaf_items.proofs.lists.open_all.Given as goal

abbrev pub invariant-loop-items : goal.invariant-loop-items
invariant-loop-items l = record {
  so_far : l.lists.items ≡ l.fn.lists.items ++ opened_lists l.born (map vec_items l.yielded);
  len : vec_len l.lists ≡ vec_len l.fn.lists + length l.yielded;
  capacity : vec_capacity l.fn.lists ≤ vec_capacity l.lists;
}
