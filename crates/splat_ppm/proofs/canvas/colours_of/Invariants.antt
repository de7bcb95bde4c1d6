use Rattle.std.proofs.Common.{◌≡◌, ◌%◌, ◌^◌, map, take}
use Rattle.splat_ppm.proofs.canvas.colours_of.Given as goal

abbrev pub invariant-loop-key : goal.invariant-loop-key
invariant-loop-key l = l.colours.items ≡ map (λ key. key % 2 ^ 24) (take l.key-index l.keys)
