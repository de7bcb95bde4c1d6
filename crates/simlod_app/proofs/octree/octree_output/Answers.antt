use Rattle.std.proofs.Common.{◌≡◌, ◌∙◌, ◌<◌, ◌^◌, List, length, map, vec_items, ap, arith, rules}
use Rattle.cube_math.specs.Points.{PointValue}
use Rattle.octree_model.specs.Bags.{joined}
use Rattle.run_words.specs.Values.{JobValue}
use Rattle.batch_bounds.specs.Batches.{batches, ends_from}
use Rattle.batch_bounds.proofs.Cuts.{length-ends}
use Rattle.batch_bounds.proofs.EndLaws.{cut_of_clouds, few_batches}
use Rattle.simlod_app.proofs.octree.octree_output.Goals as goal

pub octree_output_in-requires-clause-cut : goal.octree_output_in-requires-clause-cut
octree_output_in-requires-clause-cut c =
    let clouds : List (List PointValue) = map vec_items c.args.clouds.items in
    let same : c.job.inside.batch ≡ c.args.job.now.batch = ap (λ (j : JobValue). j.batch) c.job.view_is in
    let points : c.as_slice-4.result.now ≡ joined clouds = c.as_slice-4.ensures.value ∙ c.in_ok-points.ensures in
    let ends : c.as_slice-5.result.now ≡ ends_from 0 (batches c.args.job.now.batch clouds) =
    c.as_slice-5.ensures.value ∙ c.in_ok-ends.ensures ∙ (λ i. ends_from 0 (batches (same i) (map vec_items (c.as_slice-2.ensures.value i)))) in
    record { batches = batches c.args.job.now.batch clouds; is = cut_of_clouds c.args.job.now.batch c.as_slice-4.result.now c.as_slice-5.result.now clouds c.requires.batch.0 points ends }

pub octree_output_in-requires-clause-batches : goal.octree_output_in-requires-clause-batches
octree_output_in-requires-clause-batches c =
    let clouds : List (List PointValue) = map vec_items c.args.clouds.items in
    let same : c.job.inside.batch ≡ c.args.job.now.batch = ap (λ (j : JobValue). j.batch) c.job.view_is in
    let points : c.as_slice-4.result.now ≡ joined clouds = c.as_slice-4.ensures.value ∙ c.in_ok-points.ensures in
    let ends : c.as_slice-5.result.now ≡ ends_from 0 (batches c.args.job.now.batch clouds) =
    c.as_slice-5.ensures.value ∙ c.in_ok-ends.ensures ∙ (λ i. ends_from 0 (batches (same i) (map vec_items (c.as_slice-2.ensures.value i)))) in
    let few : length c.as_slice-4.result.now < 2 ^ 32 = search rules in
    omega (arith, few, ap length points, ap length ends, length-ends 0 (batches c.args.job.now.batch clouds), few_batches c.args.job.now.batch clouds c.requires.batch.0)
