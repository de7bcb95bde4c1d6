use Rattle.std.proofs.Common.{◌≡◌, take, vec_len}
use Rattle.std.specs.Vec.{vec_capacity}
use Rattle.leaf_items.specs.Openings.{moved}
use Rattle.leaf_items.proofs.lists.move_items.Given as goal

abbrev pub invariant-loop-k : goal.invariant-loop-k
invariant-loop-k l = record {
  so_far : l.leaf.items ≡ moved l.first l.list l.fn.leaf.items (take l.k l.aims);
  len : vec_len l.leaf ≡ vec_len l.fn.leaf;
  capacity : vec_capacity l.leaf ≡ vec_capacity l.fn.leaf;
}
