use Rattle.std.proofs.Common.{[], subst}
use Rattle.std.specs.Prelude.{All}
use Rattle.std.proofs.lemmas.List.Elements.{All-from_get_or}
use Rattle.leaf_shape.specs.Shapes.{IsPathIn, ShapeValue}
use Rattle.leaf_shape.proofs.WalkLaws.{fit_of}
use Rattle.leaf_shape.proofs.shape.LeafShape.lists.Goals as goal

pub returns-clause-paths : goal.returns-clause-paths
returns-clause-paths c =
    let P : ShapeValue → Type 0 = λ s. All (IsPathIn s.cube) s.paths in
    subst P c.self.view_is
    (All-from_get_or (IsPathIn c.self.inside.cube) c.self.inside.paths.items []
    (fit_of c.self.invariant.placed))
