-- Batches and their refusals, on small cases.
use Rattle.std.proofs.Common.{◌≡◌, ℕ, [], ◌∷◌, Some, None, refl, pos}
use Rattle.cube_math.specs.Points.{PointValue}
use Rattle.cube_math.specs.Cubes.{CubeValue}
use Rattle.cube_math.specs.declared.refused.Cause.TheVariants.{Outside, Points, Nodes}
use Rattle.batch_bounds.specs.Batches.{batches, ends_from}
use Rattle.batch_bounds.specs.Bounds.{outside_row, points_row, nodes_row}

at : ℕ → ℕ → PointValue
at x y = record { x = pos x; y = pos y; z = pos 0; rgb = 0 }

smallest : CubeValue
smallest = record { ox = pos 0; oy = pos 0; oz = pos 0; bits = 7 }

-- a lone point outside
one_point : outside_row smallest 0 (at 128 0 ∷ []) ≡ Some record { input = 0; cause = Outside 0 }
unfolding at smallest
one_point = refl

-- each file is cut by itself: three points make two batches of two, and the second file's batch is the third
second_file : ends_from 0 (batches 2 ((at 0 0 ∷ at 1 0 ∷ at 2 0 ∷ []) ∷ (at 3 0 ∷ at 0 128 ∷ []) ∷ [])) ≡ 2 ∷ 3 ∷ 5 ∷ []
second_file = refl

-- a file without points gives no batch
no_points : ends_from 0 (batches 2 ([] ∷ (at 127 0 ∷ []) ∷ [])) ≡ 1 ∷ []
no_points = refl

-- as many points as the most are admitted, and one more is not
at_the_most : points_row 2 1 1 1 ≡ None
at_the_most = refl

past_the_most : points_row 2 2 2 1 ≡ Some record { input = 2; cause = Points 2 2 1 2 }
past_the_most = refl

-- the same with nodes
nine_nodes : nodes_row 9 0 9 ≡ None
nine_nodes = refl

one_node_more : nodes_row 8 0 9 ≡ Some record { input = 0; cause = Nodes 0 9 8 }
one_node_more = refl
