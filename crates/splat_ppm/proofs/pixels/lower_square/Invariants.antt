use Rattle.std.proofs.Common.{min}
use Rattle.splat_ppm.specs.Lowering.{AreLowered, lies_in_square}
use Rattle.splat_ppm.proofs.pixels.lower_square.Given as goal

abbrev pub invariant-loop-row : goal.invariant-loop-row
invariant-loop-row l = AreLowered (lies_in_square l.width l.square.left l.square.right l.square.top (min l.row l.square.bottom)) l.square.key l.fn.keys l.keys
