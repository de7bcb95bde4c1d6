use Rattle.std.proofs.Common.{min}
use Rattle.splat_ppm.specs.Lowering.{AreLowered, lies_in}
use Rattle.splat_ppm.proofs.pixels.lower.Given as goal

abbrev pub invariant-loop-k : goal.invariant-loop-k
invariant-loop-k l = AreLowered (lies_in l.first (min l.k l.end)) l.key l.fn.keys l.keys
