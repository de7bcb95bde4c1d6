use Rattle.std.proofs.Common.{◌≡◌, take}
use Rattle.std.specs.List.{All}
use Rattle.octree_file.specs.Order.{IsPoint}
use Rattle.octree_file.proofs.order.in_order.Given as goal

abbrev pub invariant-loop-p : goal.invariant-loop-p
invariant-loop-p l = record {
  copied : l.sorted.items ≡ take l.p-index l.points;
  each : All IsPoint l.sorted.items;
}
