use Rattle.std.proofs.Common.{◌≡◌, ◌++◌, take}
use Rattle.std.specs.List.{flat_map}
use Rattle.picture_model.specs.Pictures.{colour_bytes}
use Rattle.splat_ppm.proofs.picture.push_colours.Given as goal

abbrev pub invariant-loop-colour : goal.invariant-loop-colour
invariant-loop-colour l = l.bytes.items ≡ l.fn.bytes.items ++ flat_map colour_bytes (take l.colour-index l.colours)
