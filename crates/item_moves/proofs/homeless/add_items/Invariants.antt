use Rattle.std.proofs.Common.{◌≡◌, ◌≤◌, ◌++◌, replicate}
use Rattle.std.specs.Vec.{vec_capacity}
use Rattle.item_moves.proofs.homeless.add_items.Given as goal

abbrev pub invariant-loop-item : goal.invariant-loop-item
invariant-loop-item g l = record {
  homes : l.homes.items ≡ l.initial.homes.items ++ replicate l._item 4294967295;
  capacity : vec_capacity l.initial.homes ≤ vec_capacity l.homes;
}
