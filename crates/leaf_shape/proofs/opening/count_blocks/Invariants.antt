use Rattle.std.proofs.Common.{◌≡◌, ◌*◌, ◌≤◌, take}
use Rattle.leaf_shape.specs.Openings.{blocks}
use Rattle.leaf_shape.proofs.opening.count_blocks.Given as goal

abbrev pub invariant-loop-opening : goal.invariant-loop-opening
invariant-loop-opening l = record {
  so_far : l.blocks ≡ blocks (take l.opening-index l.openings);
  few : l.blocks ≤ 24 * l.opening-index;
}
