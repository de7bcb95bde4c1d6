-- The voxels of a node are no more than its points.
use Rattle.std.proofs.Common.{◌≡◌, ℕ, ◌+◌, ◌<◌, ◌≤◌, inl, inr, List, [], ◌∷◌, map, length, ap, arith}
use Rattle.std.proofs.lemmas.Bool.{cases_lt, cases_eq}
use Rattle.std.proofs.lemmas.List.{length-map}
use Rattle.cube_math.specs.Points.{PointValue}
use Rattle.cube_math.specs.Cubes.{CubeValue, cell}
use Rattle.octree_model.specs.Numbers.{ascending, with_number}
use Rattle.octree_model.specs.Voxels.{VoxelValue, voxels, cell_colour}
use Rattle.octree_model.proofs.AscendingLaws.{with_number_at, with_number_before, with_number_behind}

at_most_one_more : (n : ℕ) (ks : List ℕ) → length (with_number n ks) ≤ length ks + 1
at_most_one_more n [] = omega arith
at_most_one_more n (k ∷ ks) = elim (cases_lt n k) [
  | inl before ↦ omega (arith, ap length (with_number_before n k ks before))
  | inr not_before ↦ elim (cases_eq n k) [
    | inl same ↦ omega (arith, ap length (with_number_at n k ks same))
    | inr other ↦ omega (arith, ap length (with_number_behind n k ks (omega arith)), at_most_one_more n ks)
  ]
]

few_ascending : (ns : List ℕ) → length (ascending ns) ≤ length ns
few_ascending [] = omega arith
few_ascending (n ∷ ns) = omega (arith, at_most_one_more n (ascending ns), few_ascending ns)

pub few_voxels : (c : CubeValue) (ps : List PointValue) → length (voxels c ps) ≤ length ps
unfolding voxels
few_voxels c ps =
    let zs : List ℕ = ascending (map (cell c) ps) in
    omega (arith, length-map {B = VoxelValue} zs (λ z. record { cell = z; rgb = cell_colour c ps z }), few_ascending (map (cell c) ps), length-map ps (cell c))
