-- What is shown of clouds in a cube, unless a batch is refused.
use Rattle.std.proofs.Common.{◌≡◌, List, None, Ok, Err, ap}
use Rattle.std.specs.Option.{option_map_or}
use Rattle.batch_bounds.specs.Batches.{batches}
use Rattle.batch_bounds.specs.Bounds.{first_refusal}
use Rattle.batch_bounds.specs.Stops.{Refuses}
use Rattle.batch_bounds.specs.declared.admission.Refusal.{Refusal}
use Rattle.batch_bounds.specs.declared.admission.Refusal.TheVariants as bounds
use Rattle.cube_math.specs.Points.{PointValue}
use Rattle.cube_math.specs.Cubes.{CubeValue}
use Rattle.run_report.specs.declared.fault.Fault.TheVariants.{Batch}
use Rattle.run_words.specs.Values.{JobValue}
use Rattle.simlod_app.specs.Dues.{IsDue}
use Rattle.simlod_app.specs.RunFaults.{refusal_fault}
use Rattle.simlod_app.specs.Runs.{limits_of, octree_output_in, tree_output}

-- where no batch is refused
pub shown_whole : (j : JobValue) (clouds : List (List PointValue)) (cube : CubeValue) → first_refusal cube (limits_of j) (batches j.batch clouds) ≡ None
    → octree_output_in j clouds cube ≡ Ok (tree_output j cube clouds)
unfolding octree_output_in
shown_whole j clouds cube none = ap (λ o. option_map_or (λ row. Err (Batch row)) o (Ok (tree_output j cube clouds))) none

-- where one is
pub due_of_refusal : (j : JobValue) (clouds : List (List PointValue)) (cube : CubeValue) (refusal : Refusal) → Refuses refusal (first_refusal cube (limits_of j) (batches j.batch clouds))
    → IsDue (λ name. ⊥) ⊥ (octree_output_in j clouds cube) (refusal_fault refusal)
unfolding octree_output_in
due_of_refusal j clouds cube (bounds.Batch row) refused = ap (λ o. option_map_or (λ row. Err (Batch row)) o (Ok (tree_output j cube clouds))) refused
due_of_refusal j clouds cube bounds.Memory refused = tt
