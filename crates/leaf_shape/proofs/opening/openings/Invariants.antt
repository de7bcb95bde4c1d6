use Rattle.std.proofs.Common.{◌≡◌, ◌∷◌, [], take}
use Rattle.leaf_shape.specs.Openings.{AreShared, paths_of}
use Rattle.leaf_shape.specs.Shapes.{path_of}
use Rattle.leaf_shape.proofs.opening.openings.Given as goal

abbrev pub invariant-loop-path : goal.invariant-loop-path
invariant-loop-path l = record {
  paths : paths_of l.openings.items ≡ take l.path-index l.paths;
  shared : AreShared l.openings.items;
  before : l.before ≡ path_of ([] ∷ l.paths) l.path-index;
}
