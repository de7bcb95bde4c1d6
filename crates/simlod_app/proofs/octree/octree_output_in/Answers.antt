use Rattle.std.proofs.Common.{◌≡◌, ◌∙◌, List, length, ap, sym, subst, None, Ok}
use Rattle.cube_math.specs.Points.{PointValue}
use Rattle.octree_model.specs.Bags.{joined}
use Rattle.octree_model.specs.Octree.{octree}
use Rattle.batch_bounds.specs.Batches.{batches}
use Rattle.batch_bounds.specs.Bounds.{first_refusal}
use Rattle.batch_bounds.specs.Stops.{IsCut, Refuses}
use Rattle.batch_bounds.specs.declared.limits.Limits.{Limits}
use Rattle.batch_bounds.proofs.Cuts.{length-ends}
use Rattle.batch_bounds.proofs.EndLaws.{cut_of_clouds}
use Rattle.run_words.specs.Values.{JobValue}
use Rattle.run_report.specs.declared.fault.Fault.{Fault}
use Rattle.simlod_app.specs.Dues.{IsDue}
use Rattle.simlod_app.specs.Runs.{limits_of, octree_output_in}
use Rattle.simlod_app.proofs.OctreeOutputs.{shown_whole, due_of_refusal}
use Rattle.simlod_app.proofs.octree.octree_output_in.Goals as goal

pub returns-in-Ok-tree_output-clause-gives : goal.returns-in-Ok-tree_output-clause-gives
returns-in-Ok-tree_output-clause-gives c clouds together ended =
    let j : JobValue = c.args.job.now in
    let bs : List (List PointValue) = batches j.batch clouds in
    let cut : IsCut c.args.points.now c.args.ends.now bs = cut_of_clouds j.batch c.args.points.now c.args.ends.now clouds c.requires.ranges.batch.0 together ended in
    let none : first_refusal c.args.cube.now (limits_of j) bs ≡ None = ap (λ (l : Limits). first_refusal c.args.cube.now l bs) (sym c.limits_of.ensures) ∙ c.in-Ok.ensures.admitted bs cut in
    let built : c.in-Ok.tree ≡ octree j.leaf c.args.cube.now (joined clouds) =
    c.in-Ok.ensures.built ∙ ap (λ (l : Limits). octree l.leaf c.args.cube.now c.args.points.now) c.limits_of.ensures ∙ ap (octree j.leaf c.args.cube.now) together in
    let counted : length c.args.ends.now ≡ length bs = ap length ended ∙ length-ends 0 bs in
    shown_whole j clouds c.args.cube.now none ∙ ap Ok (sym (c.in-Ok-tree_output.ensures clouds built counted))

pub returns-clause-gives : goal.returns-clause-gives
returns-clause-gives c clouds together ended =
    let j : JobValue = c.args.job.now in
    let bs : List (List PointValue) = batches j.batch clouds in
    let cut : IsCut c.args.points.now c.args.ends.now bs = cut_of_clouds j.batch c.args.points.now c.args.ends.now clouds c.requires.ranges.batch.0 together ended in
    let refused : Refuses c.in-Err.refusal (first_refusal c.args.cube.now (limits_of j) bs) =
    subst (λ (l : Limits). Refuses c.in-Err.refusal (first_refusal c.args.cube.now l bs)) c.limits_of.ensures (c.in-Err.ensures.refused bs cut) in
    subst (λ (f : Fault). IsDue (λ name. ⊥) ⊥ (octree_output_in j clouds c.args.cube.now) f) (sym c.refusal_fault.ensures.kind) (due_of_refusal j clouds c.args.cube.now c.in-Err.refusal refused)
