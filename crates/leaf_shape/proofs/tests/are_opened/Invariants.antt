use Rattle.std.proofs.Common.{All, take}
use Rattle.std.specs.Prelude.{Contains}
use Rattle.leaf_shape.proofs.tests.are_opened.Given as goal

abbrev pub invariant-loop-path : goal.invariant-loop-path
invariant-loop-path l = All (Contains l.shape.paths) (take l.path-index l.paths)
