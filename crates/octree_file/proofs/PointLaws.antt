-- Points of a part of a list.
use Rattle.std.proofs.Common.{◌≡◌, Bool, true, false, cond, List, [], ◌∷◌, ap, sym, subst}
use Rattle.std.specs.List.{All, AllByRecursion}
use Rattle.std.proofs.lemmas.List.Elements.{All-from_recursion, recursion_from_All}
use Rattle.cube_math.specs.Points.{PointValue}
use Rattle.cube_math.specs.Cubes.{CubeValue, contains}
use Rattle.octree_model.specs.Octree.{inside}
use Rattle.octree_file.specs.Order.{IsPoint}

each_inside : (c : CubeValue) (ps : List PointValue) → AllByRecursion IsPoint ps → AllByRecursion IsPoint (inside c ps)
each_inside c [] h = h
each_inside c (p ∷ ps) h = one (contains c p) (each_inside c ps h.1)
  where
    one : (b : Bool) → AllByRecursion IsPoint (inside c ps) → AllByRecursion IsPoint (cond b (p ∷ inside c ps) (inside c ps))
    one true rest = (h.0, rest)
    one false rest = rest

pub points_inside : (c : CubeValue) (ps : List PointValue) → All IsPoint ps → All IsPoint (inside c ps)
points_inside c ps h = All-from_recursion IsPoint (inside c ps) (each_inside c ps (recursion_from_All IsPoint ps h))
